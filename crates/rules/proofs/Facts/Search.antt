-- A search: what each row that is followed keeps, and what is found at the end. Over successor lists and queues alone.
use Rattle.std.specs.Prelude.{ℕ, zero, suc, ◌+◌, ◌<◌, ◌≤◌, ◌≡◌, refl, ◌⊎◌, List, [], ◌∷◌, ◌++◌, length, get_or, take, set}
use Rattle.std.proofs.Common.{sym, ap, ◌∙◌, inl, inr, append_assoc, append-nil, arith, add-one, length-set, length-append, take-suc, get_or-set_other}
use mathlib.Core.List.Memᴰ
use Rattle.std.proofs.Math.Decide.{ℕ_discrete}
use Rattle.std.proofs.lemmas.List.{take-append-le}
use Rattle.std.proofs.Math.Seq.{take-length}
use Rattle.rules.specs.Lists.{◌∈◌}
use Rattle.rules.specs.Inner.Words.{count}
use Rattle.rules.specs.Inner.Search.{Marked, Search, Grown, on, Reached, from, Found}
use Rattle.rules.proofs.Facts.Counts.{∈-count}
use Rattle.rules.proofs.Facts.Stores.{bit_same, bit_other, at_set}
use Rattle.rules.proofs.Facts.Member.{get_or-∈}

-- rows one behind the other
pub grown_none : (Q : List ℕ) → Grown [] Q Q
grown_none Q = record { new = []; behind = sym (append-nil Q); only = λ j m. m; whole = λ j m. absurd (Memᴰ.not-nil m) }

-- what was queued stays
pub grown_keeps : {row Q Q' : List ℕ} → Grown row Q Q' → (j : ℕ) → j ∈ Q → j ∈ Q'
grown_keeps g j m = rw g.behind (Memᴰ.append_left g.new m)

pub grown_long : {row Q Q' : List ℕ} → Grown row Q Q' → length Q ≤ length Q'
grown_long {Q = Q} g = rw g.behind (simp length-append (omega arith))

pub grown_both : {row row' Q Q' Q'' : List ℕ} → Grown row Q Q' → Grown row' Q' Q'' → Grown (row ++ row') Q Q''
grown_both {row} {row'} {Q} {Q'} {Q''} g h =
    record {
      new = g.new ++ h.new;
      behind = h.behind ∙ ap (λ (l : List ℕ). l ++ h.new) g.behind ∙ append_assoc Q g.new h.new;
      only = λ j m. only' j (Memᴰ.append_cases g.new m);
      whole = λ j m. whole' j (Memᴰ.append_cases row m);
    }
  where
    only' : (j : ℕ) → (j ∈ g.new) ⊎ (j ∈ h.new) → j ∈ (row ++ row')
    only' j (inl m) = Memᴰ.append_left row' (g.only j m)
    only' j (inr m) = Memᴰ.append_right row (h.only j m)

    whole' : (j : ℕ) → (j ∈ row) ⊎ (j ∈ row') → j ∈ Q''
    whole' j (inl m) = grown_keeps h j (g.whole j m)
    whole' j (inr m) = h.whole j m

-- The search begins.
pub search_first : (next out : ℕ → List ℕ) (w : List ℕ) → Search next out w 0 0 []
search_first next out w =
    record {
      worked = omega arith;
      really = λ j m. absurd (Memᴰ.not-nil m);
      begun = λ v j m l. absurd (Memᴰ.not-nil m);
      closed = λ u j m l. absurd (Memᴰ.not-nil m);
    }

-- one more of a list's first entries
more_of : (l : List ℕ) (i : ℕ) (P : ℕ → Type 0) → i < length l → ((u : ℕ) → u ∈ take i l → P u) → P (get_or l i 0) → (u : ℕ) → u ∈ take (i + 1) l → P u
more_of l i P h before at_i u m = go (Memᴰ.append_cases (take i l) (rw (add-one, take-suc l i 0 h) at m))
  where
    go : (u ∈ take i l) ⊎ (u ∈ (get_or l i 0 ∷ [])) → P u
    go (inl k) = before u k
    go (inr k) = rw (Memᴰ.eq_of_singleton k) at_i

module _ {next out : ℕ → List ℕ} {w : List ℕ} {q h : ℕ} {Q Q' : List ℕ} (s : Search next out w q h Q) where
  -- a row of reached items is followed
  sound : {row : List ℕ} → Grown row Q Q' → ((j : ℕ) → j ∈ row → Reached next out w j) → (j : ℕ) → j ∈ Q' → Reached next out w j
  sound {row} g r j m = go (Memᴰ.append_cases Q (rw g.behind at m))
    where
      go : (j ∈ Q) ⊎ (j ∈ g.new) → Reached next out w j
      go (inl k) = s.really j k
      go (inr k) = r j (g.only j k)

  front : {row : List ℕ} → Grown row Q Q' → (u : ℕ) → u ∈ take h Q' → u ∈ take h Q
  front g u m = rw (g.behind, take-append-le h Q g.new s.worked) at m

  -- The row of the next item of w is followed.
  pub search_seed : q < length w → Grown (out (get_or w q 0)) Q Q' → Search next out w (q + 1) h Q'
  search_seed b g =
      record {
        worked = omega (arith, s.worked, grown_long g);
        really = sound g (λ j m. from (get_or-∈ w q b) m);
        begun = λ v j m l. more_of w q (λ u. j ∈ out u → j ∈ Q') b (λ u k l'. grown_keeps g j (s.begun u j k l')) (λ l'. g.whole j l') v m l;
        closed = λ u j m l. grown_keeps g j (s.closed u j (front g u m) l);
      }

  -- The row of the next item of the queue is followed.
  pub search_step : h < length Q → Grown (next (get_or Q h 0)) Q Q' → Search next out w q (h + 1) Q'
  search_step b g =
      record {
        worked = omega (arith, grown_long g);
        really = sound g (λ j m. on (s.really (get_or Q h 0) (get_or-∈ Q h b)) m);
        begun = λ v j m l. grown_keeps g j (s.begun v j m l);
        closed = λ u j m l. more_of Q h (λ y. j ∈ next y → j ∈ Q') b (λ y k l'. grown_keeps g j (s.closed y j k l')) (λ l'. g.whole j l') u (rw (g.behind, take-append-le (h + 1) Q g.new (omega arith)) at m) l;
      }

-- The search is over: all of w and of the queue is worked off.
module _ {next out : ℕ → List ℕ} {w Q : List ℕ} (s : Search next out w (length w) (length Q) Q) where
  pub search_last : {j : ℕ} → Reached next out w j → j ∈ Q
  search_last (from {v} {j} m l) = s.begun v j (rw (take-length w) m) l
  search_last (on {u} {j} r l) = s.closed u j (rw (take-length Q) (search_last r)) l

-- a 0 is stored over, and all are 0
count_set : (l : List ℕ) (i a : ℕ) → i < length l → get_or l i 0 ≡ 0 → ¬ (a ≡ 0) → count 0 (set l i a) + 1 ≡ count 0 l
unfolding count
count_set [] i a h z n = absurd (omega arith)
count_set (x ∷ l) zero a h z n = rw (z, bit_same 0) (omega (arith, bit_other a 0 (λ e. n (sym e))))
count_set (x ∷ l) (suc i) a h z n = omega (arith, count_set l i a (omega arith) z n)

all_zero : (M : List ℕ) → ((i : ℕ) → get_or M i 0 ≡ 0) → count 0 M ≡ length M
unfolding count
all_zero [] z = refl
all_zero (a ∷ M) z = rw (z 0, bit_same 0) (omega (arith, all_zero M (λ i. z (suc i))))

-- Marks and queue: one item is reached.
module _ {k : ℕ} {Q M : List ℕ} (a : Marked k Q M) (j : ℕ) where
  -- it is marked already
  pub old_item : 0 < get_or M j 0 → Grown (j ∷ []) Q Q
  old_item h = record { new = []; behind = sym (append-nil Q); only = λ i m. absurd (Memᴰ.not-nil m); whole = λ i m. rw (Memᴰ.eq_of_singleton m) (a.ready j h) }

  -- it is new
  module _ (low : j < k) (none : get_or M j 0 ≡ 0) where
    j_in : j < length M
    j_in = omega (arith, a.long)

    pub new_room : length Q < k
    new_room = omega (arith, a.room, ∈-count (rw none at (get_or-∈ M j j_in)))

    pub new_item : Grown (j ∷ []) Q (Q ++ j ∷ [])
    new_item = record { new = j ∷ []; behind = refl; only = λ i m. m; whole = λ i m. Memᴰ.append_right Q m }

    fewer : (via : ℕ) → 0 < via → count 0 (set M j via) + 1 ≡ count 0 M
    fewer via p = count_set M j via j_in none (omega arith)

    pub new_marked : (via : ℕ) → 0 < via → Marked k (Q ++ j ∷ []) (set M j via)
    new_marked via p =
        record {
          long = simp length-set a.long;
          room = simp length-append (omega (arith, a.room, fewer via p));
          queued = λ i m. queued' i (Memᴰ.append_cases Q m);
          ready = λ i h. ready' i h (ℕ_discrete i j);
        }
      where
        queued' : (i : ℕ) → (i ∈ Q) ⊎ (i ∈ (j ∷ [])) → (i < k) × (0 < get_or (set M j via) i 0)
        queued' i (inl m) = ((a.queued i m).0, at_set (λ y. 0 < y) M j i via j_in (λ e. p) (λ n. (a.queued i m).1))
        queued' i (inr m) = (omega (arith, Memᴰ.eq_of_singleton m), at_set (λ y. 0 < y) M j i via j_in (λ e. p) (λ n. absurd (n (Memᴰ.eq_of_singleton m))))

        ready' : (i : ℕ) → 0 < get_or (set M j via) i 0 → Dec (i ≡ j) → i ∈ (Q ++ j ∷ [])
        ready' i h (yes e) = Memᴰ.append_right Q (Memᴰ.head e)
        ready' i h (no n) = Memᴰ.append_left (j ∷ []) (a.ready i (rw (get_or-set_other M j i via 0 n) at h))

-- no item is marked yet
pub none_marked : (k : ℕ) (M : List ℕ) → length M ≡ k → ((i : ℕ) → get_or M i 0 ≡ 0) → Marked k [] M
none_marked k M long none =
    record {
      long = long;
      room = omega (arith, all_zero M none);
      queued = λ j m. absurd (Memᴰ.not-nil m);
      ready = λ j h. absurd (omega (arith, none j));
    }

-- the marks tell what is reached
pub all_found : {next out : ℕ → List ℕ} {w Q M : List ℕ} {k : ℕ} → Marked k Q M → Search next out w (length w) (length Q) Q → Found next out w M
all_found {Q = Q} a s = record { marks = λ j. (λ h. s.really j (a.ready j h), λ r. (a.queued j (search_last s r)).1) }
