-- A question that is decided in lent words, whatever they hold; and a call's verdict on it.
use Rattle.std.specs.Prelude.{ℕ, Bool, true, false, List, ◌≡◌, replicate}
use Rattle.rules.specs.Drawing.{Drawing}
use Rattle.rules.specs.Maps.{Injective, Road}
use Rattle.rules.specs.Refusals.{refusal_of, left_over}
use Rattle.std.specs.Prelude.{Result, Ok}
use Rattle.rules.specs.declared.Refusal.{Refusal}

-- the words are zero afterwards
pub record Decides (P : Type 0) (words : ℕ) (ws' : List ℕ) (r : Bool) : Type 0 where
  pub yes : r ≡ true → P
  pub no : r ≡ false → ¬ P
  pub clear : ws' ≡ replicate words 0

-- what a call promises that decides P in so many words of workspace, or is refused
pub record Answers (P : Type 0) (refused words : ℕ) (ws ws' : List ℕ) (r : Result Bool Refusal) : Type 0 where
  pub refusal : refusal_of r ≡ refused
  pub yes : r ≡ Ok true → P
  pub no : r ≡ Ok false → ¬ P
  pub workspace : ws' ≡ left_over (refusal_of r) words ws

-- what is left to decide for natural maps
abbrev pub GroupConvex : Drawing → List ℕ → List ℕ → Type 0
GroupConvex d w x = Injective w × Injective x × (¬ Road d w x)
