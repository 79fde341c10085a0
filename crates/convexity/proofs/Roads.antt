-- The decision: both tables stand, are walked, and a selected node with a mark tells of a road.
use Rattle.std.specs.Prelude.{ℕ, ◌+◌, ◌<◌, ◌≤◌, ◌⊎◌, length, take, Bool, true, false, ltb, ◌≡◌, refl, List, [], ◌∷◌, All, get_or, replicate}
use Rattle.std.specs.List.{list_any}
use Rattle.std.proofs.Common.{arith, sym, ◌∙◌, lt-ltb, le-ltb, inl, inr, add-one, take-suc, take_all}
use Rattle.std.proofs.Math.Decide.{dec_lt}
use Rattle.std.proofs.lemmas.Grind.{get_or_default_zero}
use Rattle.std.proofs.lemmas.List.Folds.{list_any_at}
use mathlib.Core.List.Memᴰ
use Rattle.rules.proofs.Facts.Member.{get_or-∈, ∈-get_or}
use Rattle.rules.proofs.Facts.Tests.{not_both}
use Rattle.rules.specs.Lists.{◌∈◌}
use Rattle.rules.specs.Drawing.{Drawing, Accepted, node_count}
use Rattle.rules.specs.Maps.{Road}
use Rattle.rules.specs.Inner.Decides.{Decides}
use Rattle.rules.specs.Inner.Incidence.{items, incidence}
use Rattle.rules.specs.Inner.Search.{Found}
use Rattle.rules.specs.Inner.Selected.{unselected}
use Rattle.rules.specs.Inner.Table.{successors}
use Rattle.rules.proofs.Facts.Incident.{incident_low}
use Rattle.rules.proofs.Facts.Roads.{those_e, Ways, reached_road, road_reached}
use Rattle.rules.proofs.Facts.Tables.{tails}
use Rattle.convexity.specs.Tables.{TwoTables, AnyMarked}
use Rattle.convexity.specs.Walk.{Pair}

-- what is asked of each entry of a list
pub each-low : (k : ℕ) (l : List ℕ) → ((v : ℕ) → v ∈ l → v < k) → All (λ v. v < k) l
each-low k l low i d h = rw (get_or_default_zero l i d h) (low (get_or l i 0) (get_or-∈ l i h))

-- some entry of a list has a mark
marked_one : (M l : List ℕ) → list_any (λ v. ltb 0 (get_or M v 0)) l ≡ true → (v : ℕ) × (v ∈ l) × (0 < get_or M v 0)
marked_one M [] e = not_both e
marked_one M (a ∷ l) e = go (dec_lt 0 (get_or M a 0)) (λ q. marked_one M l q)
  where
    go : Dec (0 < get_or M a 0) → (list_any (λ v. ltb 0 (get_or M v 0)) l ≡ true → (v : ℕ) × (v ∈ l) × (0 < get_or M v 0)) → (v : ℕ) × (v ∈ (a ∷ l)) × (0 < get_or M v 0)
    go (yes h) later = (a, Memᴰ.head refl, h)
    go (no n) later = let (v, m, h) = later (rw (le-ltb 0 (get_or M a 0) (omega arith)) at e) in (v, Memᴰ.tail m, h)

-- none has one
marked_none : (M l : List ℕ) → list_any (λ v. ltb 0 (get_or M v 0)) l ≡ false → (v : ℕ) → v ∈ l → ¬ (0 < get_or M v 0)
marked_none M l e v m h =
    let p = ∈-get_or m in
    not_both (sym e ∙ list_any_at (λ v. ltb 0 (get_or M v 0)) l p.place 0 p.inside (rw p.there (lt-ltb 0 (get_or M v 0) h)))

-- so the test of all entries tells
pub any_marked : (M l : List ℕ) (r : Bool) → r ≡ list_any (λ v. ltb 0 (get_or M v 0)) l → AnyMarked M l r
any_marked M l r e = record { yes = λ q. marked_one M l (sym e ∙ q); no = λ q v m. let n = marked_none M l (sym e ∙ q) v m in omega arith }

-- the tables stand
module _ {d : Drawing} {x t u : List ℕ} (a : Accepted d) (s : TwoTables d x t u) where
  items_low : (v j : ℕ) → j ∈ successors (node_count d) u v → j < items d
  unfolding unselected
  items_low v j m =
      let h : v < node_count d = tails (node_count d) u v j m in
      incident_low d a v j (those_e _ (incidence d v) (rw (s.rows v h) at m)).0

  pub road_pair : Pair (node_count d) u (items d) t
  road_pair = record { rows = s.inside; items = items_low; few = omega arith; later = s.full.table }

  -- and were walked
  pub road_decided : (w : List ℕ) → ((v : ℕ) → v ∈ w → v < node_count d) → {M ws' : List ℕ} {words : ℕ} {r : Bool} → Found (successors (items d) t) (successors (node_count d) u) w M
      → r ≡ list_any (λ v. ltb 0 (get_or M v 0)) w → ws' ≡ replicate words 0 → Decides (Road d w x) words ws' r
  road_decided w low {M} {r = r} f any cleared =
      record {
        yes = λ q. let (v, m, some) = told.yes q in reached_road ways v m ((f.marks v).0 some);
        no = λ q road. omega (arith, told.no q road.enter road.enters, (f.marks road.enter).1 (road_reached ways road));
        clear = cleared;
      }
    where
      told : AnyMarked M w r
      told = any_marked M w r any

      ways : Ways d w x t u
      ways = record { accepted = a; low = low; full = s.full; rows = s.rows }

-- entries of a list are tested one by one: none has a mark so far
abbrev pub NoneMarked : List ℕ → List ℕ → ℕ → Type 0
NoneMarked M l i = (v : ℕ) → v ∈ take i l → get_or M v 0 ≡ 0

pub none_more : (M l : List ℕ) (i : ℕ) → i < length l → NoneMarked M l i → get_or M (get_or l i 0) 0 ≡ 0 → NoneMarked M l (i + 1)
none_more M l i h before z v m = go (Memᴰ.append_cases (take i l) (rw (add-one, take-suc l i 0 h) at m))
  where
    go : (v ∈ take i l) ⊎ (v ∈ (get_or l i 0 ∷ [])) → get_or M v 0 ≡ 0
    go (inl k) = before v k
    go (inr k) = rw (Memᴰ.eq_of_singleton k) z

pub found_one : (M l : List ℕ) (i : ℕ) → i < length l → 0 < get_or M (get_or l i 0) 0 → AnyMarked M l true
found_one M l i h p = record { yes = λ _. (get_or l i 0, get_or-∈ l i h, p); no = λ e. not_both (sym e) }

pub found_none : (M l : List ℕ) (i : ℕ) → length l ≤ i → NoneMarked M l i → AnyMarked M l false
found_none M l i h none = record { yes = λ e. not_both e; no = λ _ v m. none v (rw (take_all i l h) m) }
