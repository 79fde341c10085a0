-- What the functions of the writer did. The promise of `answer` cites `Put`.
use Rattle.std.specs.Prelude.{ℕ, ◌+◌, ◌≡◌, ◌≤◌, List, ◌++◌, length}
use Rattle.std.proofs.lemmas.List.Edits.{sets}
use Rattle.rules.specs.Program.{operations_header, unplaced_count, lines}
use Rattle.text.specs.declared.writer.Writer.{Writer}

-- Bytes were stored from a place on, nothing else was changed, and r is the place behind them.
pub record Put (bs : List ℕ) (at : ℕ) (out out' : List ℕ) (r : ℕ) : Type 0 where
  pub holds : out' ≡ sets out at bs
  pub next : r ≡ at + length bs

-- the bytes fit behind the place
abbrev pub HasRoom : List ℕ → Writer → Type 0
HasRoom bs w = w.at + length bs ≤ length w.out.now

-- The bytes were stored in the same buffer, and the place is behind them.
pub record Wrote (bs : List ℕ) (old new : Writer) : Type 0 where
  pub puts : Put bs old.at old.out.now new.out.now new.at
  pub long : length new.out.now ≡ length old.out.now
  pub same_buffer : new.out.ghost_name ≡ old.out.ghost_name

-- the operations' header and lines, from their orders and marks
unfoldable pub operations : List ℕ → List ℕ → List ℕ
operations orders marks = operations_header (length orders) (unplaced_count marks) ++ lines 0 orders marks
