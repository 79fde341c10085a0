-- The rooms that a call with two outputs and a workspace is lent.
use Rattle.std.specs.Prelude.{ℕ, Bool, ◌||◌, [], ◌∷◌, ltb}
use Rattle.rules.specs.Refusals.{first_of, short_room}

-- is one of them too short?
abbrev pub rooms_short : (need₁ room₁ need₂ room₂ words room : ℕ) → Bool
rooms_short need₁ room₁ need₂ room₂ words room = ltb room₁ need₁ || ltb room₂ need₂ || ltb room words

-- then 11
unfoldable pub rooms_refusal : (need₁ room₁ need₂ room₂ words room : ℕ) → ℕ
rooms_refusal need₁ room₁ need₂ room₂ words room = first_of (short_room need₁ room₁ ∷ short_room need₂ room₂ ∷ short_room words room ∷ [])
