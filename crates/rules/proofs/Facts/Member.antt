-- What stands in a list: by places, in parts of it, and after map, concat and range.
use Rattle.std.specs.Prelude.{ℕ, zero, suc, ◌<◌, Bool, true, false, cond, ◌≡◌, refl, ◌⊎◌, List, [], ◌∷◌, ◌++◌, map, length, get_or, take, drop, T, eqb}
use Rattle.std.proofs.Common.{arith, sym, ap, ◌∙◌, subst, inl, inr, length-append, eqb→eq}
use Rattle.std.proofs.Math.Decide.{ℕ_discrete, dec_lt}
use Rattle.std.proofs.Math.Bool.{or-true}
use mathlib.Core.List.Memᴰ
use Rattle.std.proofs.Math.ListN.{get_or-eq_default, get_or-append}
use Rattle.std.proofs.lemmas.List.{get_or_at}
use Rattle.std.proofs.Math.Dec.{eqb_refl}
use Rattle.rules.specs.Drawing.{part}
use Rattle.rules.specs.Lists.{◌∈◌, has, any, range, concat, sum}
use Rattle.rules.proofs.Facts.Bools.{is_true, is_false, or_cases, or_l, or_r}

-- membership is decided
pub dec∈ : (u : ℕ) (l : List ℕ) → Dec (u ∈ l)
dec∈ u [] = no Memᴰ.not-nil
dec∈ u (a ∷ l) = step (ℕ_discrete u a) (dec∈ u l)
  where
    both : ¬ (u ≡ a) → ¬ (u ∈ l) → (u ≡ a) ⊎ (u ∈ l) → ⊥
    both p q (inl e) = p e
    both p q (inr m) = q m

    step : Dec (u ≡ a) → Dec (u ∈ l) → Dec (u ∈ (a ∷ l))
    step (yes e) r = yes (Memᴰ.head e)
    step (no p) (yes m) = yes (Memᴰ.tail m)
    step (no p) (no q) = no (λ m. both p q (Memᴰ.cases_cons m))

-- an entry by its place, and the place of an entry
pub get_or-∈ : (l : List ℕ) (i : ℕ) → i < length l → get_or l i 0 ∈ l
get_or-∈ [] i h = absurd (omega arith)
get_or-∈ (a ∷ l) zero h = Memᴰ.head refl
get_or-∈ (a ∷ l) (suc i) h = Memᴰ.tail (get_or-∈ l i (omega arith))

-- where u stands in l
pub record Place (u : ℕ) (l : List ℕ) : Type 0 where
  pub place : ℕ
  pub inside : place < length l
  pub there : get_or l place 0 ≡ u

pub ∈-get_or : {u : ℕ} {l : List ℕ} → u ∈ l → Place u l
∈-get_or (Memᴰ.head e) = record { place = 0; inside = omega arith; there = sym e }
∈-get_or (Memᴰ.tail m) = let p = ∈-get_or m in record { place = suc p.place; inside = omega (arith, p.inside); there = p.there }

pub ∈-take : (n : ℕ) (l : List ℕ) {u : ℕ} → u ∈ take n l → u ∈ l
∈-take zero l m = absurd (Memᴰ.not-nil m)
∈-take (suc n) [] m = m
∈-take (suc n) (a ∷ l) {u} m = go (∈-take n l {u = u}) (Memᴰ.cases_cons m)
  where
    go : (u ∈ take n l → u ∈ l) → (u ≡ a) ⊎ (u ∈ take n l) → u ∈ (a ∷ l)
    go below (inl e) = Memᴰ.head e
    go below (inr m') = Memᴰ.tail (below m')

pub ∈-drop : (n : ℕ) (l : List ℕ) {u : ℕ} → u ∈ drop n l → u ∈ l
∈-drop zero l m = m
∈-drop (suc n) [] m = m
∈-drop (suc n) (a ∷ l) m = Memᴰ.tail (∈-drop n l m)

pub ∈-map : (f : ℕ → ℕ) {u : ℕ} {l : List ℕ} → u ∈ l → f u ∈ map f l
∈-map f (Memᴰ.head e) = Memᴰ.head (ap f e)
∈-map f (Memᴰ.tail m) = Memᴰ.tail (∈-map f m)

pub ∈-map_inv : (f : ℕ → ℕ) (l : List ℕ) {v : ℕ} → v ∈ map f l → (u : ℕ) × (u ∈ l) × (v ≡ f u)
∈-map_inv f [] m = absurd (Memᴰ.not-nil m)
∈-map_inv f (a ∷ l) {v} m = go (∈-map_inv f l {v = v}) (Memᴰ.cases_cons m)
  where
    go : (v ∈ map f l → (u : ℕ) × (u ∈ l) × (v ≡ f u)) → (v ≡ f a) ⊎ (v ∈ map f l) → (u : ℕ) × (u ∈ (a ∷ l)) × (v ≡ f u)
    go below (inl e) = (a, Memᴰ.head refl, e)
    go below (inr m') = let p = below m' in (p.0, Memᴰ.tail p.1, p.2)

pub range-∈ : (k u : ℕ) → u < k → u ∈ range k
range-∈ zero u h = absurd (omega arith)
range-∈ (suc k) u h = go (range-∈ k u) (ℕ_discrete u k)
  where
    go : (u < k → u ∈ range k) → Dec (u ≡ k) → u ∈ range (suc k)
    go ih (yes e) = Memᴰ.append_right (range k) (Memᴰ.head e)
    go ih (no n) = Memᴰ.append_left (k ∷ []) (ih (omega arith))

pub ∈-range : (k u : ℕ) → u ∈ range k → u < k
∈-range zero u m = absurd (Memᴰ.not-nil m)
∈-range (suc k) u m = go (∈-range k u) (Memᴰ.append_cases (range k) m)
  where
    go : (u ∈ range k → u < k) → (u ∈ range k) ⊎ (u ∈ (k ∷ [])) → u < suc k
    go ih (inl l) = omega (arith, ih l)
    go ih (inr e) = omega (arith, Memᴰ.eq_of_singleton e)

pub range_length : (k : ℕ) → length (range k) ≡ k
range_length zero = refl
range_length (suc k) = length-append (range k) (k ∷ []) ∙ omega (arith, range_length k)

pub range_at : (k i : ℕ) → i < k → get_or (range k) i 0 ≡ i
range_at zero i h = absurd (omega arith)
range_at (suc k) i h = go (range_at k i) (dec_lt i k)
  where
    go : (i < k → get_or (range k) i 0 ≡ i) → Dec (i < k) → get_or (range k ++ (k ∷ [])) i 0 ≡ i
    go ih (yes l) = get_or-append (range k) (k ∷ []) 0 i (omega (arith, range_length k)) ∙ ih l
    go ih (no l) = let e : i ≡ k = omega arith in rw e (get_or_at (range k) k [] 0 k (range_length k))

pub map_at : (f : ℕ → ℕ) (l : List ℕ) (i : ℕ) → i < length l → get_or (map f l) i 0 ≡ f (get_or l i 0)
map_at f [] i h = absurd (omega arith)
map_at f (a ∷ l) zero h = refl
map_at f (a ∷ l) (suc i) h = map_at f l i (omega arith)

pub map_range : (f : ℕ → ℕ) (k i : ℕ) → i < k → get_or (map f (range k)) i 0 ≡ f i
map_range f k i h = map_at f (range k) i (omega (arith, range_length k)) ∙ ap f (range_at k i h)

pub concat_i : (g : ℕ → List ℕ) {u e : ℕ} {l : List ℕ} → e ∈ l → u ∈ g e → u ∈ concat (map g l)
concat_i g {u} (Memᴰ.head {xs = r} q) m = Memᴰ.append_left (concat (map g r)) (subst (λ z. u ∈ g z) q m)
concat_i g (Memᴰ.tail {x = a} k) m = Memᴰ.append_right (g a) (concat_i g k m)

pub concat_e : (g : ℕ → List ℕ) (l : List ℕ) {u : ℕ} → u ∈ concat (map g l) → (e : ℕ) × (e ∈ l) × (u ∈ g e)
concat_e g [] m = absurd (Memᴰ.not-nil m)
concat_e g (a ∷ l) {u} m = go (concat_e g l {u = u}) (Memᴰ.append_cases (g a) m)
  where
    go : (u ∈ concat (map g l) → (e : ℕ) × (e ∈ l) × (u ∈ g e)) → (u ∈ g a) ⊎ (u ∈ concat (map g l)) → (e : ℕ) × (e ∈ (a ∷ l)) × (u ∈ g e)
    go ih (inl k) = (a, Memᴰ.head refl, k)
    go ih (inr k) = let p = ih k in (p.0, Memᴰ.tail p.1, p.2)

pub cond-∈ : (b : Bool) {e : ℕ} {l : List ℕ} → e ∈ l → e ∈ cond b (e ∷ l) l
cond-∈ true m = Memᴰ.head refl
cond-∈ false m = m

pub has_yes : {u : ℕ} {l : List ℕ} → u ∈ l → has l u ≡ true
has_yes {u = u} (Memᴰ.head {x = a} e) = rw (← e, is_true (eqb u u) (eqb_refl u))
has_yes {u = u} (Memᴰ.tail {x = a} m) = rw (has_yes m) (or-true (eqb u a))

pub has_no : (l : List ℕ) (u : ℕ) → ¬ (u ∈ l) → has l u ≡ false
has_no [] u n = refl
has_no (a ∷ l) u n = rw (is_false (eqb u a) (λ t. n (Memᴰ.head (eqb→eq u a t)))) (has_no l u (λ m. n (Memᴰ.tail m)))

pub any_i : (p : ℕ → Bool) (l : List ℕ) (u : ℕ) → u ∈ l → T (p u) → T (any p l)
unfolding any
any_i p l u m t = go m
  where
    go : {k : List ℕ} → u ∈ k → T (any p k)
    go (Memᴰ.head {x = a} {xs = r} e) = or_l (p a) (any p r) (rw (← e) t)
    go (Memᴰ.tail {x = a} {xs = r} n) = or_r (p a) (any p r) (go n)

pub any_e : (p : ℕ → Bool) (l : List ℕ) → T (any p l) → (u : ℕ) × (u ∈ l) × T (p u)
unfolding any
any_e p [] t = absurd t
any_e p (a ∷ l) t = go (any_e p l) (or_cases (p a) (any p l) t)
  where
    go : (T (any p l) → (u : ℕ) × (u ∈ l) × T (p u)) → T (p a) ⊎ T (any p l) → (u : ℕ) × (u ∈ (a ∷ l)) × T (p u)
    go ih (inl h) = (a, Memᴰ.head refl, h)
    go ih (inr h) = let q = ih h in (q.0, Memᴰ.tail q.1, q.2)

pub has_i : {l : List ℕ} {u : ℕ} → u ∈ l → T (has l u)
has_i m = rw (has_yes m) tt

pub has_e : (l : List ℕ) (u : ℕ) → T (has l u) → u ∈ l
has_e l u t = go (dec∈ u l)
  where
    go : Dec (u ∈ l) → u ∈ l
    go (yes m) = m
    go (no n) = absurd (rw (has_no l u n) at t)

pub ∈-part : (lens vals : List ℕ) (e : ℕ) {u : ℕ} → u ∈ part lens vals e → u ∈ vals
unfolding part
∈-part lens vals e m = ∈-drop (sum (take e lens)) vals (∈-take (get_or lens e 0) (drop (sum (take e lens)) vals) m)

-- only an operation of the drawing has entries
pub part_inside : (lens vals : List ℕ) (e : ℕ) {u : ℕ} → u ∈ part lens vals e → e < length lens
unfolding part
part_inside lens vals e {u} m = go (dec_lt e (length lens))
  where
    go : Dec (e < length lens) → e < length lens
    go (yes h) = h
    go (no n) = absurd (Memᴰ.not-nil (rw (get_or-eq_default lens 0 {n = e} (omega arith)) at m))
