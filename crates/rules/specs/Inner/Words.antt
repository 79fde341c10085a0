-- Words on lists that proofs of loops use. No promise cites this folder.
use Rattle.std.specs.Prelude.{ℕ, zero, suc, ◌+◌, ◌*◌, Bool, true, false, cond, List, [], ◌∷◌, ◌++◌, map, take, drop, replicate, eqb, ltb}
use Rattle.rules.specs.Lists.{sum, range}

abbrev pub bit : Bool → ℕ
bit true = 1
bit false = 0

-- how often v stands in a list, and how many stand below v
unfoldable pub count : ℕ → List ℕ → ℕ
count v [] = 0
count v (a ∷ l) = bit (eqb a v) + count v l

unfoldable pub below : ℕ → List ℕ → ℕ
below v [] = 0
below v (a ∷ l) = bit (ltb a v) + below v l

-- how often each of 0 .. n - 1 stands in a list
abbrev pub counts : ℕ → List ℕ → List ℕ
counts n l = map (λ v. count v l) (range n)

-- how often the entries of a list stand in another, added up
abbrev pub listings : List ℕ → List ℕ → ℕ
listings l k = sum (map (λ v. count v l) k)

-- the sum of the products of two lists
unfoldable pub products : List ℕ → List ℕ → ℕ
products [] k = 0
products (a ∷ l) [] = 0
products (a ∷ l) (b ∷ k) = a * b + products l k

abbrev pub some : ℕ → ℕ
some zero = 0
some (suc n) = 1

-- how many numbers of a list are not 0
unfoldable pub positives : List ℕ → ℕ
positives [] = 0
positives (a ∷ l) = some a + positives l

-- i, i + 1, .. : c numbers
unfoldable pub up_from : ℕ → ℕ → List ℕ
up_from i zero = []
up_from i (suc c) = i ∷ up_from (suc i) c

-- the first n numbers become a, the rest stays
abbrev pub filled : ℕ → ℕ → List ℕ → List ℕ
filled n a l = replicate n a ++ drop n l

-- the owner of each value: first for each value of the first list, then first + 1, ..
unfoldable pub owners : ℕ → List ℕ → List ℕ
owners first [] = []
owners first (c ∷ lens) = replicate c first ++ owners (suc first) lens

-- the owners of the values that are v, in order
unfoldable pub listing : ℕ → List ℕ → List ℕ → List ℕ
listing v [] l = []
listing v (o ∷ os) [] = []
listing v (o ∷ os) (x ∷ l) = cond (eqb x v) (o ∷ listing v os l) (listing v os l)

-- a part `&mut ws[a..e]` that has come back as ys: what the borrow checker says of the whole
abbrev pub back : ℕ → ℕ → List ℕ → List ℕ → List ℕ
back a k ys ws = take a ws ++ (ys ++ drop k (drop a ws))
