-- What `answer` promises.
use Rattle.std.specs.Prelude.{ℕ, ◌≤◌, ◌<◌, List, ◌≡◌, length}
use Rattle.rules.specs.Program.{output_of, most_written}
use Rattle.text.specs.Writing.{Put}

-- A room of 16,384 bytes is enough for every text: what is written for the text stands at its front, nothing else was changed, and r is how many
-- bytes that is. In a smaller room nothing is changed, and r is 0.
pub record Answered (text out out' : List ℕ) (r : ℕ) : Type 0 where
  pub written : most_written ≤ length out → Put (output_of text) 0 out out' r
  pub kept : length out < most_written → (out' ≡ out) × (r ≡ 0)
