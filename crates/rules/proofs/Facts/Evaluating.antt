-- Laws of memory and of evaluation, over lists: stores one by one, values read at places, layers run one behind the other.
use Rattle.std.specs.Prelude.{ℕ, zero, suc, ◌+◌, ◌-◌, ◌≤◌, ◌<◌, true, false, List, [], ◌∷◌, ◌++◌, map, ◌≡◌, refl, length, get_or, set, take, drop}
use Rattle.std.proofs.Common.{arith, zero-add, suc-add, sym, ap, ◌∙◌, length-set, drop_of_length-le, take-append-drop, length-take-le, drop-drop, drop_at, take_at, eq-eqb, ne_eqb}
use mathlib.Core.List.Memᴰ
use Rattle.std.proofs.Math.Seq.{drop-append-add}
use Rattle.std.proofs.lemmas.List.{set-append_left}
use Rattle.rules.specs.Inner.Words.{back}
use Rattle.rules.proofs.Facts.Segments.{seg-length, seg-set_in, back_after, seg-at}
use Rattle.rules.specs.Evaluation.{store_all}
use Rattle.rules.specs.Lists.{◌∈◌, has, seg}
use Rattle.rules.proofs.Facts.Counts.{drop_more}
use Rattle.rules.proofs.Facts.Member.{get_or-∈}

-- a test of each entry, one turn and the end
pub has_here : (l : List ℕ) (i a : ℕ) → i < length l → a ≡ get_or l i 0 → has (drop i l) a ≡ true
has_here l i a h e = rw (drop_more l i h, eq-eqb a (get_or l i 0) e)

pub has_more : (l : List ℕ) (i a : ℕ) → i < length l → ¬ (a ≡ get_or l i 0) → has (drop i l) a ≡ has (drop (i + 1) l) a
has_more l i a h n = rw (drop_more l i h, ne_eqb a (get_or l i 0) n)

pub has_end : (l : List ℕ) (i a : ℕ) → length l ≤ i → has (drop i l) a ≡ false
has_end l i a h = rw (drop_of_length-le l h)

-- stores one by one: the memory keeps its length; one behind the other; one turn of a loop, and its end
pub store_length : (places values memory : List ℕ) → length (store_all places values memory) ≡ length memory
unfolding store_all
store_length [] values memory = refl
store_length (p ∷ places) [] memory = refl
store_length (p ∷ places) (v ∷ values) memory = store_length places values (set memory p v) ∙ length-set memory p v

pub store_append : (places values places' values' memory : List ℕ) → length places ≡ length values
    → store_all (places ++ places') (values ++ values') memory ≡ store_all places' values' (store_all places values memory)
unfolding store_all
store_append [] [] places' values' memory e = refl
store_append [] (v ∷ values) places' values' memory e = absurd (omega arith)
store_append (p ∷ places) [] places' values' memory e = absurd (omega arith)
store_append (p ∷ places) (v ∷ values) places' values' memory e = store_append places values places' values' (set memory p v) (omega arith)

store_none : (places memory : List ℕ) → store_all places [] memory ≡ memory
unfolding store_all
store_none [] memory = refl
store_none (p ∷ places) memory = refl

module _ (places values memory : List ℕ) (i : ℕ) where
  pub store_more : i < length places → i < length values
      → store_all (drop i places) (drop i values) memory ≡ store_all (drop (i + 1) places) (drop (i + 1) values) (set memory (get_or places i 0) (get_or values i 0))
  unfolding store_all
  store_more h g = rw (drop_more places i h, drop_more values i g)

  pub store_end : length places ≤ i → store_all (drop i places) (drop i values) memory ≡ memory
  unfolding store_all
  store_end h = rw (drop_of_length-le places h)

  pub store_out : length values ≤ i → store_all (drop i places) (drop i values) memory ≡ memory
  store_out h = rw (drop_of_length-le values h) (store_none (drop i places) memory)

-- values read at places: one turn
pub map_at : (f : ℕ → ℕ) (l : List ℕ) (i : ℕ) → i < length l → get_or (map f l) i 0 ≡ f (get_or l i 0)
map_at f [] i h = absurd (omega arith)
map_at f (a ∷ l) zero h = refl
map_at f (a ∷ l) (suc i) h = map_at f l i (omega arith)

pub map_same : (f g : ℕ → ℕ) (l : List ℕ) → ((u : ℕ) → u ∈ l → f u ≡ g u) → map f l ≡ map g l
map_same f g [] h = refl
map_same f g (a ∷ l) h = rw (h a (Memᴰ.head refl), map_same f g l (λ u m. h u (Memᴰ.tail m)))

-- a store inside of a part that has come back
set_behind : (xs ys : List ℕ) (i v : ℕ) → set (xs ++ ys) (length xs + i) v ≡ xs ++ set ys i v
set_behind [] ys i v = rw (zero-add i)
set_behind (x ∷ xs) ys i v = rw (suc-add (length xs) i) (ap (λ (l : List ℕ). x ∷ l) (set_behind xs ys i v))

pub back-set : (a k : ℕ) (ys ws : List ℕ) → a ≤ length ws → (i v : ℕ) → i < length ys → set (back a k ys ws) (a + i) v ≡ back a k (set ys i v) ws
back-set a k ys ws h i v g =
    let e : a + i ≡ length (take a ws) + i = omega (arith, length-take-le a ws h) in
    ap (λ (j : ℕ). set (back a k ys ws) j v) e ∙ rw (set_behind (take a ws) (ys ++ drop k (drop a ws)) i v, set-append_left ys (drop k (drop a ws)) i v g)

-- a part that comes back where a shorter one, from the same place on, has come back before
pub back_over : (a k l : ℕ) (xs ys ws : List ℕ) → a ≤ length ws → length xs ≡ k → k ≤ l → back a l ys (back a k xs ws) ≡ back a l ys ws
back_over a k l xs ys ws h e g =
    rw (take_at (take a ws) (xs ++ drop k (drop a ws)) a (length-take-le a ws h), drop_at (take a ws) (xs ++ drop k (drop a ws)) a (length-take-le a ws h))
    (ap (λ (r : List ℕ). take a ws ++ (ys ++ r)) rest)
  where
    rest : drop l (xs ++ drop k (drop a ws)) ≡ drop l (drop a ws)
    rest =
        let q : l ≡ length xs + (l - k) = omega arith in
        let r : k + (l - k) ≡ l = omega arith in
        ap (λ (j : ℕ). drop j (xs ++ drop k (drop a ws))) q ∙ drop-append-add xs (drop k (drop a ws)) (l - k) ∙ drop-drop (l - k) k (drop a ws) ∙ ap (λ (j : ℕ). drop j (drop a ws)) r

-- values scattered from a part of a workspace over the memory before it, which alone has changed
pub record Scattering (base n from : ℕ) (places ws₀ ws : List ℕ) (i : ℕ) : Type 0 where
  pub inside : i ≤ length places
  pub long : length ws ≡ length ws₀
  pub held : ws ≡ back base n (seg base n ws) ws₀
  pub rest : store_all (drop i places) (drop i (seg from (length places) ws₀)) (seg base n ws) ≡ store_all places (seg from (length places) ws₀) (seg base n ws₀)

module _ (base n from : ℕ) (places ws₀ : List ℕ) (low : (u : ℕ) → u ∈ places → u < n) (order : base + n ≤ from) (fits : from + length places ≤ length ws₀) where
  pub scattering_begin : Scattering base n from places ws₀ ws₀ 0
  scattering_begin =
      record {
        inside = omega arith;
        long = refl;
        held = sym (rw (take-append-drop n (drop base ws₀)) (take-append-drop base ws₀));
        rest = refl;
      }

  module _ (ws : List ℕ) (i : ℕ) (s : Scattering base n from places ws₀ ws i) where
    pub scattering_next : i < length places → Scattering base n from places ws₀ (set ws (base + get_or places i 0) (get_or ws (from + i) 0)) (i + 1)
    scattering_next h =
        record {
          inside = omega arith;
          long = length-set ws (base + v) a ∙ s.long;
          held = ap (λ (l : List ℕ). set l (base + v) a) s.held ∙ back-set base n M ws₀ (omega arith) v a (omega (arith, M-long, v_low)) ∙ ap (λ (l : List ℕ). back base n l ws₀) (sym stored);
          rest = rw (stored, value) (sym (store_more places vals M i h (omega (arith, vals_long))) ∙ s.rest);
        }
      where
        v : ℕ
        v = get_or places i 0

        a : ℕ
        a = get_or ws (from + i) 0

        M : List ℕ
        M = seg base n ws

        vals : List ℕ
        vals = seg from (length places) ws₀

        v_low : v < n
        v_low = low v (get_or-∈ places i h)

        M-long : length M ≡ n
        M-long = seg-length base n ws (omega (arith, s.long))

        vals_long : length vals ≡ length places
        vals_long = seg-length from (length places) ws₀ fits

        stored : seg base n (set ws (base + v) a) ≡ set M v a
        stored = seg-set_in base n ws v a v_low

        value : a ≡ get_or vals i 0
        value = ap (λ (l : List ℕ). get_or l (from + i) 0) s.held ∙ back_after base n M ws₀ (omega arith) M-long (from + i) (omega arith) ∙ sym (seg-at from (length places) ws₀ i h)

    pub scattering_end : length places ≤ i → ws ≡ back base n (store_all places (seg from (length places) ws₀) (seg base n ws₀)) ws₀
    scattering_end h = s.held ∙ ap (λ (l : List ℕ). back base n l ws₀) (sym (store_end places (seg from (length places) ws₀) (seg base n ws) i h) ∙ s.rest)
