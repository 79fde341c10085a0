-- The part of a refusal that several calls share.
use Rattle.std.specs.Prelude.{ℕ, [], ◌∷◌}
use Rattle.rules.specs.Drawing.{Drawing, Boundary}
use Rattle.rules.specs.Refusals.{first_of, bad_lengths, bad_value, bad_boundary}

-- 2, then 3
unfoldable pub lists_refusal : Drawing → ℕ
lists_refusal d = first_of (bad_lengths d ∷ bad_value d ∷ [])

-- 2 and 3 of a drawing, then 12 of its boundary
unfoldable pub boundary_lists_refusal : Drawing → Boundary → ℕ
boundary_lists_refusal d b = first_of (bad_lengths d ∷ bad_value d ∷ bad_boundary d b ∷ [])
