-- Kahn's walk in lists of k words: it begins, a listing is followed, an item is taken in hand and worked off, and it ends.
use Rattle.std.specs.Prelude.{ℕ, ◌+◌, ◌-◌, ◌<◌, ◌≤◌, max, min, Bool, true, false, ◌≡◌, List, [], ◌∷◌, length, get_or, take, set, replicate, eqb}
use Rattle.std.proofs.Common.{◌∙◌, arith, add-one, length-take-le, length-set, length-take, length-drop, take-suc-set, get_or-take}
use Rattle.std.proofs.Math.Decide.{dec_lt}
use Rattle.std.proofs.Math.ListN.{get_or-eq_default}
use Rattle.std.proofs.lemmas.List.{take-set-le, length-replicate, get_or-replicate}
use Rattle.rules.specs.Lists.{◌∈◌, seg}
use Rattle.rules.specs.Inner.Loops.{Counted}
use Rattle.rules.specs.Inner.Table.{Table, successors, Walked}
use Rattle.rules.specs.Inner.Walk.{Laid, Standing, left}
use Rattle.rules.specs.Inner.Words.{up_from, bit}
use Rattle.rules.proofs.Facts.Kahn.{low, some_left, follow_one, begin, rested, in_hand, take_up, sorted}
use Rattle.rules.proofs.Facts.Member.{∈-get_or}
use Rattle.rules.proofs.Facts.Segments.{seg-at}
use Rattle.rules.proofs.Facts.Stores.{positives-set, some_pos}
use Rattle.rules.proofs.Facts.Tables.{tails, flat, left-all}
use Rattle.rules.proofs.Facts.Counts.{drop_more}
use Rattle.rules.specs.Lists.{seg}
use Rattle.std.specs.Prelude.{suc}
use Rattle.rules.specs.Inner.Walk.{Releasable, Released}
use Rattle.std.specs.Prelude.{refl}
use Rattle.std.proofs.Common.{ne_eqb, eq-eqb, eqb-true, get_or-set_same}
use Rattle.std.proofs.lemmas.Bool.{eqb-false}

pub still_laid : {k b : ℕ} {ws ws' : List ℕ} → Laid k b ws → length ws' ≡ length ws → Laid k b ws'
still_laid a e = record { small = a.small; table = a.table; fits = omega (arith, a.fits) }

-- what is in use of the queue
queue_long : {next : ℕ → List ℕ} {k h tail far : ℕ} {rest D Q F : List ℕ} → Standing next k h tail rest far D Q F → length (take tail Q) ≡ tail
queue_long {tail = tail} {Q = Q} w = length-take-le tail Q (omega (arith, w.long, w.within))

pub worked_within : {next : ℕ → List ℕ} {k h tail far : ℕ} {rest D Q F : List ℕ} → Standing next k h tail rest far D Q F → h ≤ tail
worked_within w = omega (arith, w.walk.worked, queue_long w)

-- s gets a new degree and depth, and comes behind the queue where no listing is left
module _ (k tail s far : ℕ) (D Q F : List ℕ) (full : length Q ≡ k) (r : Releasable k tail s D) where
  abbrev g : ℕ
  g = get_or D s 0 - 1

  abbrev f : ℕ
  f = max (get_or F s 0) far

  pub stayed : ¬ (g ≡ 0) → Released k tail s far D Q F tail (set D s g) Q (set F s f)
  stayed z = record { long = refl; within = r.within; degrees = refl; depths = refl; queue = rw (ne_eqb g 0 z) }

  pub joined_up : g ≡ 0 → Released k tail s far D Q F (tail + 1) (set D s g) (set Q tail s) (set F s f)
  joined_up z =
      record {
        long = length-set Q tail s;
        within = omega (arith, r.room z);
        degrees = refl;
        depths = refl;
        queue = rw (eq-eqb g 0 z, add-one tail) (take-suc-set Q tail s (omega (arith, r.room z, full)));
      }

  -- s is stored behind the queue in any case
  pub followed : Released k tail s far D Q F (tail + bit (eqb g 0)) (set D s g) (set Q tail s) (set F s f)
  followed = go (eqb g 0) refl
    where
      go : (b : Bool) → eqb g 0 ≡ b → Released k tail s far D Q F (tail + bit b) (set D s g) (set Q tail s) (set F s f)
      go true e = joined_up (eqb-true g 0 e)
      go false e =
          let y = stayed (eqb-false g 0 e) in
          let q : tail + 0 ≡ tail = omega arith in
          rw q (record { long = length-set Q tail s; within = y.within; degrees = refl; depths = refl; queue = take-set-le tail Q tail s (omega arith) ∙ y.queue })

-- the degree and the depth of s stand there
pub degree_stored : (D : List ℕ) (s left : ℕ) → s < length D → get_or (set D s left) s 0 ≡ left
degree_stored D s left h = get_or-set_same D s left 0 h

pub depth_stored : (F : List ℕ) (s depth : ℕ) → s < length F → get_or (set F s depth) s 0 ≡ depth
depth_stored F s depth h = get_or-set_same F s depth 0 h

-- a listing is followed
module _ {next : ℕ → List ℕ} {k h tail s far : ℕ} {rest D Q F : List ℕ} (w : Standing next k h tail (s ∷ rest) far D Q F) where
  pub listed_low : s < k
  listed_low = low w.walk

  pub listed_some : 0 < get_or D s 0
  listed_some = some_left w.walk

  -- an item that has a listing is not in the queue, so that the queue has room for one more
  pub room_behind : tail < k
  room_behind =
      omega (
        arith,
        w.walk.room,
        queue_long w,
        positives-set D s 0 (omega (arith, listed_low, w.walk.degrees)),
        some_pos (get_or D s 0) listed_some,
      )

  pub releasable : Releasable k tail s D
  releasable = record { low = listed_low; some = listed_some; within = w.within; room = λ z. room_behind }

  pub release_stands : {tail' : ℕ} {D' Q' F' : List ℕ} → Released k tail s far D Q F tail' D' Q' F' → Standing next k h tail' rest far D' Q' F'
  release_stands r = record { long = r.long ∙ w.long; within = r.within; walk = rw (r.queue, r.degrees, r.depths) (follow_one w.walk) }

  pub follow_stands : Standing next k h (tail + bit (eqb (get_or D s 0 - 1) 0)) rest far (set D s (get_or D s 0 - 1)) (set Q tail s) (set F s (max (get_or F s 0) far))
  follow_stands = release_stands (followed k tail s far D Q F w.long releasable)

-- the item at the head of the queue is taken in hand
module _ {k h tail : ℕ} {t D Q F : List ℕ} (T : Table k t) (w : Standing (successors k t) k h tail [] 0 D Q F) (more : h < tail) where
  abbrev hand : ℕ
  hand = get_or Q h 0

  h_in : h < length (take tail Q)
  h_in = omega (arith, queue_long w)

  hand_is : get_or (take tail Q) h 0 ≡ hand
  hand_is = get_or-take tail Q h 0 more

  pub hand_low : hand < k
  hand_low = rw hand_is at (in_hand w.walk h_in T.items)

  pub hand_shallow : get_or F hand 0 ≤ k
  hand_shallow = omega (arith, w.walk.shallow hand, w.walk.worked, queue_long w, w.within)

  pub taken : Standing (successors k t) k (h + 1) tail (successors k t hand) (get_or F hand 0 + 1) D Q F
  taken = record { long = w.long; within = w.within; walk = rw hand_is at (take_up w.walk h_in T.items) }

-- the item in hand is worked off
pub stands_still : {next : ℕ → List ℕ} {k h tail far : ℕ} {D Q F : List ℕ} → Standing next k h tail [] far D Q F → Standing next k h tail [] 0 D Q F
stands_still w = record { long = w.long; within = w.within; walk = rested w.walk }

-- what all items list
abbrev pub listings : ℕ → List ℕ → List ℕ
listings k t = seg (k + 1) (length t - (k + 1)) t

-- each word behind the offsets is an item
pub items_low : {k : ℕ} {t : List ℕ} → Table k t → (a n : ℕ) → k < a → (v : ℕ) → v ∈ seg a n t → v < k
items_low {k} {t} T a n h v m =
    let o = ∈-get_or m in
    let e : length (seg a n t) ≡ min n (length t - a) = simp (length-take, length-drop) (λ i. min n (length t - a)) in
    omega (arith, o.there, o.inside, seg-at a n t o.place (omega (arith, o.inside)), flat k t T (a + o.place) (omega arith) (omega (arith, o.inside)))

-- the walk begins
pub stands_first : {k : ℕ} {t D₀ D Q F : List ℕ} → Table k t → D₀ ≡ replicate k 1 → Counted (listings k t) D₀ D → length Q ≡ k → F ≡ replicate k 0
    → Standing (successors k t) k 0 0 (up_from 0 k) 0 D Q F
stands_first {k} {t} {D₀} {D} {Q} {F} T ones c q zeros =
    record {
      long = q;
      within = omega arith;
      walk = begin (successors k t) k D F (c.long ∙ rw ones (length-replicate k 1)) (rw zeros (length-replicate k 0)) degree depth;
    }
  where
    all : seg (k + 1) (get_or t k 0) t ≡ listings k t
    all = let e : get_or t k 0 ≡ length t - (k + 1) = omega (arith, T.last) in rw e

    degree : (j : ℕ) → j < k → get_or D j 0 ≡ left (successors k t) [] k j + 1
    degree j h =
        let one : get_or D₀ j 0 ≡ 1 = rw ones (get_or-replicate k j 1 0 h) in
        rw (left-all k t T j k (omega arith), all) (omega (arith, c.each j))

    all_zero : List ℕ
    all_zero = replicate k 0

    zero_at : (j : ℕ) → Dec (j < k) → get_or all_zero j 0 ≡ 0
    zero_at j (yes h) = get_or-replicate k j 0 0 h
    zero_at j (no n) = get_or-eq_default all_zero 0 {n = j} (omega (arith, length-replicate {A = ℕ} k 0))

    depth : (j : ℕ) → get_or F j 0 ≡ 0
    depth j = rw zeros (zero_at j (dec_lt j k))

-- the walk is over
pub stands_last : (t : List ℕ) {D Q F : List ℕ} {k h tail : ℕ} → Standing (successors k t) k h tail [] 0 D Q F → h ≤ tail → tail ≤ h → Walked (successors k t) k tail D F
stands_last t {D} {Q} {F} {k} {h} {tail} w l r = let e = queue_long w in rw e at (sorted w.walk (omega (arith, e)) (tails k t))

-- the listings of a row from place p on
abbrev pub row_from : ℕ → List ℕ → ℕ → ℕ → List ℕ
row_from k t p end = seg (k + 1 + p) (end - p) t

pub row_more : (k : ℕ) (t : List ℕ) (p end : ℕ) → p < end → k + 1 + end ≤ length t → row_from k t p end ≡ get_or t (k + 1 + p) 0 ∷ row_from k t (p + 1) end
row_more k t p end h b =
    let e : end - p ≡ suc (end - (p + 1)) = omega arith in
    let q : k + 1 + p + 1 ≡ k + 1 + (p + 1) = omega arith in
    rw (e, drop_more t (k + 1 + p) (omega arith), q)

pub row_over : (k : ℕ) (t : List ℕ) (p end : ℕ) → end ≤ p → row_from k t p end ≡ []
row_over k t p end h = let e : end - p ≡ 0 = omega arith in rw e
