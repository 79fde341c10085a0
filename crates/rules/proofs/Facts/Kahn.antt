-- Kahn's walk: what each of its steps keeps, and what it has found at the end. Over successor lists alone.
use Rattle.std.specs.Prelude.{ℕ, ◌+◌, ◌-◌, ◌<◌, ◌≤◌, max, Bool, true, false, cond, ◌≡◌, ◌⊎◌, List, [], ◌∷◌, ◌++◌, length, get_or, take, eqb}
use Rattle.std.proofs.Math.Path.{refl}
use Rattle.std.proofs.Common.{sym, ap, inl, inr, arith, add-one, length-set, length-append, take-suc, take_at, eqb-true}
use mathlib.Core.List.Memᴰ
use Rattle.std.proofs.Math.Decide.{ℕ_discrete, dec_le}
use Rattle.std.proofs.Math.ListN.{get_or-append}
use Rattle.std.proofs.lemmas.List.{take-append-le, get_or_at}
use Rattle.std.proofs.Math.Seq.{take-length}
use Rattle.std.proofs.lemmas.Bool.{eqb-false}
use Rattle.rules.specs.Graph.{Chain, stay, step, OnOrBehindCycle}
use Rattle.rules.specs.Lists.{◌∈◌}
use Rattle.rules.specs.Inner.Table.{Walked}
use Rattle.rules.specs.Inner.Walk.{left, Walk, lowered, deepened, joined}
use Rattle.rules.specs.Inner.Words.{bit, some, count, positives, up_from}
use Rattle.rules.proofs.Facts.Chains.{snoc}
use Rattle.rules.proofs.Facts.Counts.{count-up_from, up_from-∈}
use Rattle.rules.proofs.Facts.Left.{left-none, left-some, left_one}
use Rattle.rules.proofs.Facts.Member.{∈-take, get_or-∈}
use Rattle.rules.proofs.Facts.Pigeon.{endless}
use Rattle.rules.proofs.Facts.Stores.{at_set, bit_same, bit_other, lower, positives-set, positives-all, some_pos}

-- One listing of s is followed.
module _ {next : ℕ → List ℕ} {k h s far : ℕ} {rest Q D F : List ℕ} (w : Walk next k h (s ∷ rest) far Q D F) where
  pub low : s < k
  low = w.listed s (Memᴰ.head refl)

  count_s : (j : ℕ) → count j (s ∷ rest) ≡ bit (eqb s j) + count j rest
  unfolding count
  count_s j = refl

  pub some_left : 0 < get_or D s 0
  some_left = omega (arith, w.degree s low, count_s s, bit_same s)

  abbrev D' : List ℕ
  D' = lowered D s

  abbrev F' : List ℕ
  F' = deepened F s far

  less : (j : ℕ) → get_or D' j 0 + bit (eqb s j) ≡ get_or D j 0
  less j = lower D s j (omega (arith, low, w.degrees)) some_left

  -- an item of the queue is not s
  apart : (u : ℕ) → u ∈ Q → ¬ (u ≡ s)
  apart u m e = omega (arith, (w.queued u m).1, ap (λ (v : ℕ). get_or D v 0) e, some_left)

  deeper : (j : ℕ) → get_or F j 0 ≤ get_or F' j 0
  deeper j = at_set (λ y. get_or F j 0 ≤ y) F s j (max (get_or F s 0) far) (omega (arith, low, w.depths)) (λ e. rw e (omega arith)) (λ n. omega arith)

  settled : (u : ℕ) → u ∈ Q → get_or F' u 0 ≡ get_or F u 0
  settled u m = at_set (λ y. y ≡ get_or F u 0) F s u (max (get_or F s 0) far) (omega (arith, low, w.depths)) (λ e. absurd (apart u m e)) (λ n. refl)

  far_below : far ≤ get_or F' s 0
  far_below = at_set (λ y. far ≤ y) F s s (max (get_or F s 0) far) (omega (arith, low, w.depths)) (λ e. omega arith) (λ n. absurd (n refl))

  chains' : (j : ℕ) → (u : ℕ) × Chain next (get_or F' j 0) u j
  chains' j =
      at_set (λ y. (u : ℕ) × Chain next y u j) F s j (max (get_or F s 0) far) (omega (arith, low, w.depths))
      (λ e. rw e (longer (dec_le (get_or F s 0) far))) (λ n. w.chains j)
    where
      longer : Dec (get_or F s 0 ≤ far) → (u : ℕ) × Chain next (max (get_or F s 0) far) u s
      longer (yes b) = let e : max (get_or F s 0) far ≡ far = omega arith in rw e (w.hand s (Memᴰ.head refl))
      longer (no b) = let e : max (get_or F s 0) far ≡ get_or F s 0 = omega arith in rw e (w.chains s)

  rises' : (u j : ℕ) → u ∈ take h Q → j ∈ next u → (get_or F' u 0 < get_or F' j 0) ⊎ ((get_or F' u 0 < far) × (j ∈ rest))
  rises' u j m l = go (w.rises u j m l)
    where
      same : get_or F' u 0 ≡ get_or F u 0
      same = settled u (∈-take h Q m)

      split : get_or F u 0 < far → (j ≡ s) ⊎ (j ∈ rest) → (get_or F' u 0 < get_or F' j 0) ⊎ ((get_or F' u 0 < far) × (j ∈ rest))
      split b (inl e) = inl (rw e (omega (arith, same, far_below)))
      split b (inr r) = inr (omega (arith, same), r)

      go : (get_or F u 0 < get_or F j 0) ⊎ ((get_or F u 0 < far) × (j ∈ (s ∷ rest))) → (get_or F' u 0 < get_or F' j 0) ⊎ ((get_or F' u 0 < far) × (j ∈ rest))
      go (inl b) = inl (omega (arith, same, deeper j))
      go (inr p) = split p.0 (Memᴰ.cases_cons p.1)

  shallow' : (j : ℕ) → get_or F' j 0 ≤ h
  shallow' j = at_set (λ y. y ≤ h) F s j (max (get_or F s 0) far) (omega (arith, low, w.depths)) (λ e. omega (arith, w.shallow s, w.near)) (λ n. w.shallow j)

  left_room : positives D' + 1 ≡ positives D + some (get_or D s 0 - 1)
  left_room = omega (arith, positives-set D s (get_or D s 0 - 1) (omega (arith, low, w.degrees)), some_pos (get_or D s 0) some_left)

  -- the queue has room where s is to join
  pub room_left : get_or D s 0 - 1 ≡ 0 → length Q < k
  room_left z = omega (arith, w.room, left_room, ap some z)

  -- s stays outside of the queue
  stays : ¬ (get_or D s 0 - 1 ≡ 0) → Walk next k h rest far Q D' F'
  stays z =
      record {
        degrees = simp length-set w.degrees;
        depths = simp length-set w.depths;
        worked = w.worked;
        room = omega (arith, w.room, left_room, some_pos (get_or D s 0 - 1) (omega arith));
        degree = λ j b. omega (arith, less j, w.degree j b, count_s j);
        queued = λ j m. ((w.queued j m).0, omega (arith, less j, (w.queued j m).1));
        ready = λ j b e. w.ready j b (omega (arith, less j, bit_other s j (λ q. z (at_s j q e))));
        once = w.once;
        chains = chains';
        rises = rises';
        shallow = shallow';
        listed = λ j m. w.listed j (Memᴰ.tail m);
        hand = λ j m. w.hand j (Memᴰ.tail m);
        near = w.near;
      }
    where
      at_s : (j : ℕ) → j ≡ s → get_or D' j 0 ≡ 0 → get_or D s 0 - 1 ≡ 0
      at_s j q e = let e' : get_or D' s 0 ≡ 0 = rw q at e in omega (arith, less s, bit_same s)

  -- s joins the queue
  joins : get_or D s 0 - 1 ≡ 0 → Walk next k h rest far (Q ++ s ∷ []) D' F'
  joins z =
      record {
        degrees = simp length-set w.degrees;
        depths = simp length-set w.depths;
        worked = simp length-append (omega (arith, w.worked));
        room = simp length-append (omega (arith, w.room, left_room, ap some z));
        degree = λ j b. rw front (omega (arith, less j, w.degree j b, count_s j));
        queued = λ j m. queued' j (Memᴰ.append_cases Q m);
        ready = λ j b e. ready' j b e (ℕ_discrete j s);
        once = once';
        chains = chains';
        rises = λ u j m l. rises' u j (rw front at m) l;
        shallow = shallow';
        listed = λ j m. w.listed j (Memᴰ.tail m);
        hand = λ j m. w.hand j (Memᴰ.tail m);
        near = w.near;
      }
    where
      front : take h (Q ++ s ∷ []) ≡ take h Q
      front = take-append-le h Q (s ∷ []) w.worked

      queued' : (j : ℕ) → (j ∈ Q) ⊎ (j ∈ (s ∷ [])) → (j < k) × (get_or D' j 0 ≡ 0)
      queued' j (inl m) = ((w.queued j m).0, omega (arith, less j, (w.queued j m).1))
      queued' j (inr m) = let e = Memᴰ.eq_of_singleton m in (omega (arith, low), rw e (omega (arith, less s, bit_same s)))

      ready' : (j : ℕ) → j < k → get_or D' j 0 ≡ 0 → Dec (j ≡ s) → j ∈ (Q ++ s ∷ [])
      ready' j b e (yes q) = Memᴰ.append_right Q (Memᴰ.head q)
      ready' j b e (no n) = Memᴰ.append_left (s ∷ []) (w.ready j b (omega (arith, less j, bit_other s j n)))

      once' : (i : ℕ) → i < length (Q ++ s ∷ []) → ¬ (get_or (Q ++ s ∷ []) i 0 ∈ take i (Q ++ s ∷ []))
      once' i b = go (ℕ_discrete i (length Q))
        where
          b' : i < length Q + 1
          b' = simp length-append at b

          go : Dec (i ≡ length Q) → ¬ (get_or (Q ++ s ∷ []) i 0 ∈ take i (Q ++ s ∷ []))
          go (yes e) = rw (take_at Q (s ∷ []) i (sym e), get_or_at Q s [] 0 i (sym e)) (λ m. apart s m refl)
          go (no n) = rw (take-append-le i Q (s ∷ []) (omega (arith, b')), get_or-append Q (s ∷ []) 0 i (omega (arith, b'))) (w.once i (omega (arith, b')))

  pub follow_one : Walk next k h rest far (joined Q D s) D' F'
  follow_one = go (eqb (get_or D s 0 - 1) 0) refl
    where
      go : (b : Bool) → eqb (get_or D s 0 - 1) 0 ≡ b → Walk next k h rest far (cond b (Q ++ s ∷ []) Q) D' F'
      go true e = joins (eqb-true (get_or D s 0 - 1) 0 e)
      go false e = stays (eqb-false (get_or D s 0 - 1) 0 e)

-- The walk begins: the root lists every item once.
pub begin : (next : ℕ → List ℕ) (k : ℕ) (D F : List ℕ) → length D ≡ k → length F ≡ k → ((j : ℕ) → j < k → get_or D j 0 ≡ left next [] k j + 1) → ((j : ℕ) → get_or F j 0 ≡ 0)
    → Walk next k 0 (up_from 0 k) 0 [] D F
begin next k D F ld lf deg zero-deep =
    record {
      degrees = ld;
      depths = lf;
      worked = omega arith;
      room = omega (arith, positives-all D (λ i b. omega (arith, deg i (omega arith))));
      degree = λ j b. omega (arith, deg j b, count-up_from j 0 k (omega arith) (omega arith));
      queued = λ j m. absurd (Memᴰ.not-nil m);
      ready = λ j b e. absurd (omega (arith, deg j b));
      once = λ i b. absurd (omega arith);
      chains = λ j. rw (zero-deep j) (j, stay);
      rises = λ u j m l. absurd (Memᴰ.not-nil m);
      shallow = λ j. omega (arith, zero-deep j);
      listed = λ j m. omega (arith, up_from-∈ 0 k m);
      hand = λ j m. (j, stay);
      near = omega arith;
    }

-- with none in hand, depths rise along every listing of an item that is worked off
followed : {next : ℕ → List ℕ} {k h far : ℕ} {Q D F : List ℕ} → Walk next k h [] far Q D F → (u j : ℕ) → u ∈ take h Q → j ∈ next u → get_or F u 0 < get_or F j 0
followed {next} {k} {h} {far} {Q} {D} {F} w u j m l = go (w.rises u j m l)
  where
    go : (get_or F u 0 < get_or F j 0) ⊎ ((get_or F u 0 < far) × (j ∈ [])) → get_or F u 0 < get_or F j 0
    go (inl b) = b
    go (inr p) = absurd (Memᴰ.not-nil p.1)

-- The item in hand is worked off, and none is in hand.
pub rested : {next : ℕ → List ℕ} {k h far : ℕ} {Q D F : List ℕ} → Walk next k h [] far Q D F → Walk next k h [] 0 Q D F
rested {far = far} w =
    record {
      degrees = w.degrees;
      depths = w.depths;
      worked = w.worked;
      room = w.room;
      degree = w.degree;
      queued = w.queued;
      ready = w.ready;
      once = w.once;
      chains = w.chains;
      rises = λ u j m l. inl (followed w u j m l);
      shallow = w.shallow;
      listed = w.listed;
      hand = λ j m. absurd (Memᴰ.not-nil m);
      near = omega arith;
    }

-- The next item of the queue is taken in hand.
module _ {next : ℕ → List ℕ} {k h : ℕ} {Q D F : List ℕ} (w : Walk next k h [] 0 Q D F) (b : h < length Q) (inside : (u j : ℕ) → j ∈ next u → j < k) where
  abbrev i : ℕ
  i = get_or Q h 0

  more : take (h + 1) Q ≡ take h Q ++ i ∷ []
  more = rw (add-one, take-suc Q h 0 b)

  pub in_hand : i < k
  in_hand = (w.queued i (get_or-∈ Q h b)).0

  degree_up : (j : ℕ) → j < k → get_or D j 0 ≡ left next (take (h + 1) Q) k j + count j (next i)
  unfolding count
  degree_up j l = rw more (omega (arith, w.degree j l, left_one next (take h Q) i j (w.once h b) k in_hand))

  rises_up : (u j : ℕ) → u ∈ take (h + 1) Q → j ∈ next u → (get_or F u 0 < get_or F j 0) ⊎ ((get_or F u 0 < get_or F i 0 + 1) × (j ∈ next i))
  rises_up u j m l = go (Memᴰ.append_cases (take h Q) (rw more at m))
    where
      go : (u ∈ take h Q) ⊎ (u ∈ (i ∷ [])) → (get_or F u 0 < get_or F j 0) ⊎ ((get_or F u 0 < get_or F i 0 + 1) × (j ∈ next i))
      go (inl m') = inl (followed w u j m' l)
      go (inr m') = let e = Memᴰ.eq_of_singleton m' in inr (rw e (omega arith), rw e at l)

  hand_up : (j : ℕ) → j ∈ next i → (u : ℕ) × Chain next (get_or F i 0 + 1) u j
  hand_up j m = let p = w.chains i in rw add-one (p.0, snoc p.1 m)

  pub take_up : Walk next k (h + 1) (next i) (get_or F i 0 + 1) Q D F
  take_up =
      record {
        degrees = w.degrees;
        depths = w.depths;
        worked = omega arith;
        room = w.room;
        degree = degree_up;
        queued = w.queued;
        ready = w.ready;
        once = w.once;
        chains = w.chains;
        rises = rises_up;
        shallow = λ j. omega (arith, w.shallow j);
        listed = λ j m. inside i j m;
        hand = hand_up;
        near = omega (arith, w.shallow i);
      }

-- The walk is over: every item of the queue is worked off.
module _ {next : ℕ → List ℕ} {k h : ℕ} {Q D F : List ℕ} (w : Walk next k h [] 0 Q D F) (all : h ≡ length Q) (tails : (u j : ℕ) → j ∈ next u → u < k) where
  whole : take h Q ≡ Q
  whole = rw all (take-length Q)

  degree_is : (j : ℕ) → j < k → get_or D j 0 ≡ left next Q k j
  unfolding count
  degree_is j b = let e = w.degree j b in omega (arith, rw whole at e)

  -- what leads to an item of degree 0 has degree 0 and less depth
  back : (u v : ℕ) → v < k → get_or D v 0 ≡ 0 → v ∈ next u → (get_or D u 0 ≡ 0) × (get_or F u 0 < get_or F v 0)
  back u v b e m =
      let q : u ∈ Q = left-none next Q v k u (omega (arith, degree_is v b)) (tails u v m) m in
      ((w.queued u q).1, followed w u v (rw whole q) m)

  chain_back : {c u v : ℕ} → Chain next c u v → v < k → get_or D v 0 ≡ 0 → (u < k) × (get_or D u 0 ≡ 0) × (get_or F u 0 + c ≤ get_or F v 0)
  chain_back stay b e = (b, e, omega arith)
  chain_back (step {u = u} {v = y} m c) b e =
      let p = chain_back c b e in
      let q = back u y p.0 p.1 m in
      (tails u y m, q.0, omega (arith, q.1, p.2))

  -- an item whose degree is not 0 has such an item before it
  forth : (v : ℕ) → (v < k) × (0 < get_or D v 0) → (u : ℕ) × ((u < k) × (0 < get_or D u 0)) × (v ∈ next u)
  forth v p =
      let q = left-some next Q v k (omega (arith, degree_is v p.0, p.1)) in
      (q.0, (q.1, outside q.0 q.1 q.2 (ℕ_discrete (get_or D q.0 0) 0)), q.3)
    where
      outside : (u : ℕ) → u < k → ¬ (u ∈ Q) → Dec (get_or D u 0 ≡ 0) → 0 < get_or D u 0
      outside u b n (yes e) = absurd (n (w.ready u b e))
      outside u b n (no e) = omega arith

  marked : (v : ℕ) → v < k → OnOrBehindCycle next v → Dec (get_or D v 0 ≡ 0) → 0 < get_or D v 0
  marked v b o (yes e) =
      let p = chain_back o.leads b e in
      let q = chain_back o.cycle p.0 p.1 in
      absurd (omega (arith, q.2))
  marked v b o (no e) = omega arith

  pub sorted : Walked next k (length Q) D F
  sorted =
      record {
        marks = λ v b. (
          λ p. endless next k (λ u. (u < k) × (0 < get_or D u 0)) (λ u q. q.0) forth v (b, p),
          λ o. marked v b o (ℕ_discrete (get_or D v 0) 0),
        );
        orders = λ v b e. record {
          start = (w.chains v).0;
          chain = (w.chains v).1;
          longest = λ u c r. omega (arith, (chain_back r b e).2);
        };
        others = w.room;
      }
