-- How many entries the adjacencies have, counted without making them, and that the numbers are small.
use Prim.Native.Nat.{ℕ, zero, suc, ◌+◌, ◌*◌, ◌≤◌, ◌<◌, zero-le}
use Rattle.std.specs.Prelude.{Bool, true, false, cond, ◌≡◌, refl, get_or, take, drop, replicate, eqb}
use mathlib.Core.List.Memᴰ
use mathlib.Core.List.{List, [], ◌∷◌, ◌++◌, map}
use Rattle.std.proofs.Math.Path.{sym, ap}
use Rattle.std.proofs.Common.{◌∙◌, add-mul, mul-add, mul-le-mul, length-append, length-drop, length-take-le, eqb-true, ne_eqb}
use native.Mathlib.Omega.{arith}
use Rattle.std.proofs.Math.ListN.{length}
use Rattle.std.proofs.lemmas.Bool.{eqb-false}
use Rattle.rules.specs.declared.Refusal.{Refusal}
use Rattle.rules.specs.Lists.{◌∈◌, at, sum, concat, range, row_entries}
use Rattle.rules.specs.Inner.Words.{owners, listing, products, listings, count}
use Rattle.rules.proofs.Facts.Rows.{map_same, parts_all}
use Rattle.rules.specs.Drawing.{Drawing, part, Accepted, most_values, node_count, op_count, targets_of}
use Rattle.rules.proofs.Facts.Placing.{sum-take, owners-length}
use Rattle.rules.specs.Analysis.{op_next, node_next, leaving}
use Rattle.rules.proofs.Facts.Counts.{count_le}
use Rattle.rules.proofs.Facts.ConverseTable.{listing_zero, converse-length}
use Rattle.rules.specs.Calls.{drawing_refusal}
use Rattle.rules.specs.Inner.Loops.{Counted}
use Rattle.rules.specs.Refusals.{number, refusal_of}
use Rattle.rules.specs.Promises.{RowsSize}
use Rattle.std.specs.Prelude.{Result, Ok, Err}

-- sums over lists
sum-append : (f : ℕ → ℕ) (l r : List ℕ) → sum (map f (l ++ r)) ≡ sum (map f l) + sum (map f r)
sum-append f [] r = omega arith
sum-append f (a ∷ l) r = omega (arith, sum-append f l r)

sum_plus : (f g : ℕ → ℕ) (l : List ℕ) → sum (map (λ v. f v + g v) l) ≡ sum (map f l) + sum (map g l)
sum_plus f g [] = refl
sum_plus f g (a ∷ l) = omega (arith, sum_plus f g l)

sum-none : (l : List ℕ) → sum (map (λ v. 0) l) ≡ 0
sum-none [] = refl
sum-none (a ∷ l) = omega (arith, sum-none l)

sum-copies : (f : ℕ → ℕ) (c s : ℕ) → sum (map f (replicate c s)) ≡ c * f s
sum-copies f zero s = omega arith
sum-copies f (suc c) s = let e : suc c * f s ≡ f s + c * f s = omega arith in omega (arith, sum-copies f c s)

sum-concat : (f : ℕ → ℕ) (rows : ℕ → List ℕ) (l : List ℕ) → sum (map (λ i. sum (map f (rows i))) l) ≡ sum (map f (concat (map rows l)))
sum-concat f rows [] = refl
sum-concat f rows (a ∷ l) = omega (arith, sum-concat f rows l, sum-append f (rows a) (concat (map rows l)))

sum-most : (f : ℕ → ℕ) (b : ℕ) (l : List ℕ) → ((v : ℕ) → f v ≤ b) → sum (map f l) ≤ length l * b
sum-most f b [] h = zero-le
sum-most f b (a ∷ l) h = let e : suc (length l) * b ≡ b + length l * b = omega arith in omega (arith, h a, sum-most f b l h)

concat-length : (rows : ℕ → List ℕ) (l : List ℕ) → length (concat (map rows l)) ≡ sum (map (λ i. length (rows i)) l)
concat-length rows [] = refl
concat-length rows (a ∷ l) = omega (arith, length-append (rows a) (concat (map rows l)), concat-length rows l)

-- a number of 0 .. n - 1 is met once
met : (a x n : ℕ) → x < n → sum (map (λ v. cond (eqb x v) a 0) (range n)) ≡ a
met a x zero h = absurd (omega arith)
met a x (suc n) h = sum-append (λ v. cond (eqb x v) a 0) (range n) (n ∷ []) ∙ go (eqb x n) refl (met a x n)
  where
    missed : (k : ℕ) → k ≤ x → sum (map (λ v. cond (eqb x v) a 0) (range k)) ≡ 0
    missed zero b = refl
    missed (suc k) b = sum-append (λ v. cond (eqb x v) a 0) (range k) (k ∷ []) ∙ rw (missed k (omega arith), ne_eqb x k (λ e. omega arith))

    go : (b : Bool) → eqb x n ≡ b → (x < n → sum (map (λ v. cond (eqb x v) a 0) (range n)) ≡ a) → sum (map (λ v. cond (eqb x v) a 0) (range n)) + (cond (eqb x n) a 0 + 0) ≡ a
    go true e ih = rw (missed n (omega (arith, eqb-true x n e)), e) (omega arith)
    go false e ih = rw (ih (omega (arith, eqb-false x n e)), e) (omega arith)

-- Counted twice: each owner is listed under one number.
pub listed_once : (f : ℕ → ℕ) (n : ℕ) (os l : List ℕ) → length os ≡ length l → ((u : ℕ) → u ∈ l → u < n) → sum (map (λ v. sum (map f (listing v os l))) (range n)) ≡ sum (map f os)
unfolding listing
listed_once f n [] l h low = sum-none (range n)
listed_once f n (o ∷ os) [] h low = absurd (omega arith)
listed_once f n (o ∷ os) (x ∷ l) h low =
    ap sum (map_same (λ v. sum (map f (cond (eqb x v) (o ∷ listing v os l) (listing v os l)))) (λ v. cond (eqb x v) (f o) 0 + sum (map f (listing v os l))) (range n) (λ v. apart (eqb x v) (listing v os l)))
    ∙ sum_plus (λ v. cond (eqb x v) (f o) 0) (λ v. sum (map f (listing v os l))) (range n)
    ∙ omega (arith, met (f o) x n (low x (Memᴰ.head refl)), listed_once f n os l (omega arith) (λ u m. low u (Memᴰ.tail m)))
  where
    apart : (b : Bool) (r : List ℕ) → sum (map f (cond b (o ∷ r) r)) ≡ cond b (f o) 0 + sum (map f r)
    apart true r = refl
    apart false r = omega arith

-- the owners, each with its number of another list
owners-products : (f : ℕ → ℕ) (s : ℕ) (lens k : List ℕ) → length lens ≡ length k → ((e : ℕ) → f (s + e) ≡ get_or k e 0) → sum (map f (owners s lens)) ≡ products lens k
unfolding owners products
owners-products f s [] k l h = refl
owners-products f s (c ∷ lens) [] l h = absurd (omega arith)
owners-products f s (c ∷ lens) (b ∷ k) l h =
    let z : s + 0 ≡ s = omega arith in
    let q : f s ≡ b = rw z at (h 0) in
    let m : c * f s ≡ c * b = rw q in
    omega (arith, sum-append f (replicate c s) (owners (suc s) lens), sum-copies f c s, owners-products f (suc s) lens k (omega arith) (λ e. let y : s + suc e ≡ suc s + e = omega arith in rw y at (h (suc e))))

pub products-most : (l k : List ℕ) → products l k ≤ sum l * sum k
unfolding products
products-most [] k = zero-le
products-most (a ∷ l) [] = zero-le
products-most (a ∷ l) (b ∷ k) = rw (add-mul a (sum l) (b + sum k), mul-add a b (sum k), mul-add (sum l) b (sum k)) (omega (arith, products-most l k))

-- an operation has as many entries as its length says
pub part_length : (lens vals : List ℕ) (e : ℕ) → sum lens ≡ length vals → length (part lens vals e) ≡ get_or lens e 0
unfolding part
part_length lens vals e h =
    length-take-le (get_or lens e 0) (drop (sum (take e lens)) vals)
    (simp length-drop (omega (arith, sum-take lens e, sum-take-all lens (e + 1))))
  where
    sum-take-all : (l : List ℕ) (i : ℕ) → sum (take i l) ≤ sum l
    sum-take-all [] zero = zero-le
    sum-take-all [] (suc i) = zero-le
    sum-take-all (a ∷ l) zero = zero-le
    sum-take-all (a ∷ l) (suc i) = omega (arith, sum-take-all l i)

-- at most 2^28
abbrev pub most_entries : ℕ
most_entries = 268435456

square : (s t : ℕ) → s ≤ most_values → t ≤ most_values → s * t ≤ most_entries
square s t h g = omega (arith, mul-le-mul h g)

module _ (d : Drawing) (a : Accepted d) where
  -- each operation's sources times its targets
  pub node_size : length (row_entries (node_next d) (node_count d)) ≡ products d.source_lengths d.target_lengths
  unfolding node_next
  node_size =
      concat-length (node_next d) (range (node_count d))
      ∙ ap sum (map_same (λ v. length (node_next d v)) (λ v. sum (map many (listing v (owners 0 d.source_lengths) d.source_values))) (range (node_count d)) (λ v. concat-length (targets_of d) (leaving d v) ∙ rw (listing_zero d.source_lengths d.source_values v a.sources.total)))
      ∙ listed_once many (node_count d) (owners 0 d.source_lengths) d.source_values (owners-length 0 d.source_lengths ∙ a.sources.total) a.sources.below
      ∙ owners-products many 0 d.source_lengths d.target_lengths (a.sources.count ∙ sym a.targets.count) (λ e. let q : 0 + e ≡ e = omega arith in rw q (part_length d.target_lengths d.target_values e a.targets.total))
    where
      many : ℕ → ℕ
      many e = length (targets_of d e)

  -- each target's listings as a source
  pub op_size : length (row_entries (op_next d) (op_count d)) ≡ listings d.source_values d.target_values
  unfolding op_next
  op_size =
      concat-length (op_next d) (range (op_count d))
      ∙ ap sum (map_same (λ e. length (op_next d e)) (λ e. sum (map (λ v. length (leaving d v)) (targets_of d e))) (range (op_count d)) (λ e. concat-length (leaving d) (targets_of d e)))
      ∙ sum-concat (λ v. length (leaving d v)) (targets_of d) (range (op_count d))
      ∙ ap (λ (l : List ℕ). sum (map (λ v. length (leaving d v)) l)) whole
      ∙ ap sum (map_same (λ v. length (leaving d v)) (λ v. count v d.source_values) d.target_values (λ v. converse-length d.source_lengths d.source_values v a.sources.total))
    where
      whole : row_entries (targets_of d) (op_count d) ≡ d.target_values
      whole = ap (λ (m : ℕ). row_entries (targets_of d) m) (sym a.targets.count) ∙ parts_all d.target_lengths d.target_values a.targets.total

  pub node_size_fits : products d.source_lengths d.target_lengths ≤ most_entries
  node_size_fits = omega (arith, products-most d.source_lengths d.target_lengths, square (sum d.source_lengths) (sum d.target_lengths) (omega (arith, a.sources.total, a.sources.room)) (omega (arith, a.targets.total, a.targets.room)))

  pub op_size_fits : listings d.source_values d.target_values ≤ most_entries
  op_size_fits = omega (arith, sum-most (λ v. count v d.source_values) (length d.source_values) d.target_values (λ v. count_le v d.source_values), square (length d.target_values) (length d.source_values) a.targets.room a.sources.room)

-- what a size tells, at each arm
pub unsized_number : {k : ℕ} (r : Result ℕ Refusal) (why : Refusal) → refusal_of r ≡ k → r ≡ Err why → number why ≡ k
unsized_number r why e q = sym (ap refusal_of q) ∙ e

pub sized_none : {k : ℕ} (r : Result ℕ Refusal) (n : ℕ) → refusal_of r ≡ k → r ≡ Ok n → k ≡ 0
sized_none r n e q = sym e ∙ ap refusal_of q

-- The promise of a call that gives a size, at each of its returns.
module _ (d : Drawing) (rows : ℕ → List ℕ) (k : ℕ) where
  pub size_faulty : (why : Refusal) → number why ≡ drawing_refusal d → RowsSize d rows k (Err why)
  size_faulty why e = record { refusal = e; size = λ n q. absurd (let z : ◌≡◌ {A = ℕ} 0 1 = cc in omega arith) }

  pub size_given : (size : ℕ) → drawing_refusal d ≡ 0 → size ≡ length (row_entries rows k) → RowsSize d rows k (Ok size)
  size_given size e q = record { refusal = sym e; size = λ n p. let r : n ≡ size = cc in r ∙ q }

-- counts that were taken in cleared words
pub zeros : (k v : ℕ) → ◌≡◌ {A = ℕ} (get_or (replicate k 0) v 0) 0
zeros zero v = refl
zeros (suc k) zero = refl
zeros (suc k) (suc v) = zeros k v

pub counted-listings : (k : ℕ) (l c list : List ℕ) → Counted l (replicate k 0) c → sum (map (at c) list) ≡ listings l list
counted-listings k l c list h = ap sum (map_same (at c) (λ v. count v l) list (λ v. h.each v ∙ omega (arith, zeros k v)))
