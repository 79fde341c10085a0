-- Lines of an input: LF, which is 10, ends one and is part of it; the last may have none.
use Rattle.std.specs.Prelude.{ℕ, ◌+◌, cond, List, [], ◌∷◌, eqb}

-- how many bytes the first line has
unfoldable pub line_length : List ℕ → ℕ
line_length [] = 0
line_length (b ∷ l) = cond (eqb b 10) 1 (1 + line_length l)
