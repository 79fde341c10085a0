-- Two drawings and the maps between them: the parts of a refusal that calls share, and what the check of one kind of list asks.
use Rattle.std.specs.Prelude.{ℕ, ◌<◌, ◌≤◌, Bool, ◌&&◌, List, [], ◌∷◌, map, ◌≡◌, length}
use Rattle.rules.specs.Lists.{◌∈◌, at, sum, same_list}
use Rattle.rules.specs.Drawing.{Drawing, Maps, Fits, most_items, most_values, node_count, op_count, part}
use Rattle.rules.specs.Maps.{nodes_of, ops_of}
use Rattle.rules.specs.Refusals.{first_of, unless, within, maps_within, bad_lengths, bad_value, bad_entry, not_natural_w, not_natural_x, not_natural_s, not_natural_t}

-- 2 and 3 of the source c, then of the target d, then 4 of the maps
unfoldable pub arrow_lists_refusal : Drawing → Drawing → Maps → ℕ
arrow_lists_refusal c d f = first_of (bad_lengths c ∷ bad_value c ∷ bad_lengths d ∷ bad_value d ∷ bad_entry f ∷ [])

-- 1 over everything, then those
unfoldable pub arrow_inputs_refusal : Drawing → Drawing → Maps → ℕ
arrow_inputs_refusal c d f =
    first_of (unless (within c && within d && maps_within f) 1 ∷ bad_lengths c ∷ bad_value c ∷ bad_lengths d ∷ bad_value d ∷ bad_entry f ∷ [])

-- neither 5 nor 6: the counts and the declared targets fit
pub record Sized (c d : Drawing) (f : Maps) : Type 0 where
  pub w_count : length (nodes_of f) ≡ node_count c
  pub w_target : f.w.target ≡ node_count d
  pub x_count : length (ops_of f) ≡ op_count c
  pub x_target : f.x.target ≡ op_count d

-- 7 to 10
unfoldable pub carried_refusal : Drawing → Drawing → Maps → ℕ
carried_refusal c d f = first_of (not_natural_w c d f ∷ not_natural_x c d f ∷ not_natural_s c d f ∷ not_natural_t c d f ∷ [])

-- Lists of one kind, the source's as cl and cv, the target's as dl and dv, with the entries of both maps that fit them.
pub record Carrying (w x cl cv dl dv : List ℕ) : Type 0 where
  pub lists : Fits (length w) (length x) cl cv
  pub images : (u : ℕ) → u ∈ x → u < length dl
  pub few : length dl ≤ most_items
  pub total : sum dl ≡ length dv
  pub room : length dv ≤ most_values

-- is operation e's list, carried through w, the list of its image?
abbrev pub carried_list : (w x cl cv dl dv : List ℕ) (e : ℕ) → Bool
carried_list w x cl cv dl dv e = same_list (part dl dv (at x e)) (map (at w) (part cl cv e))
