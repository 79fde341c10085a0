-- The walk: what each store to the marks and the queue keeps.
use Rattle.std.specs.Prelude.{ℕ, ◌+◌, ◌<◌, ◌≤◌, ◌≡◌, List, [], ◌∷◌, ◌++◌, length, get_or, take, set, replicate}
use Rattle.std.proofs.Common.{◌∙◌, arith, add-one, length-set, take-suc-set, take-suc, length-take-le, get_or-take}
use Rattle.std.proofs.lemmas.List.{length-replicate}
use Rattle.rules.specs.Inner.Search.{Found}
use Rattle.rules.proofs.Facts.Member.{get_or-∈}
use Rattle.rules.proofs.Facts.Sizes.{zeros}
use Rattle.rules.proofs.Facts.Search.{grown_both, old_item, grown_none, search_step, search_seed, new_marked, new_room, new_item, none_marked, all_found, search_first}
use Rattle.convexity.specs.Walk.{Held, Followed, Searching}

-- item j is reached
module _ {tail : ℕ} {M Q : List ℕ} (h : Held tail M Q) (j : ℕ) where
  pub reach_old : 0 < get_or M j 0 → Followed (j ∷ []) tail M Q tail M Q
  reach_old p = record { held = h; grown = old_item h.marked j p }

  module _ (low : j < length Q) (none : get_or M j 0 ≡ 0) where
    pub reach_room : tail < length Q
    reach_room = omega (arith, new_room h.marked j low none, length-take-le tail Q h.within)

    queue_is : take (tail + 1) (set Q tail j) ≡ take tail Q ++ j ∷ []
    queue_is = rw (add-one tail) (take-suc-set Q tail j reach_room)

    pub reach_new : (via : ℕ) → 0 < via → Followed (j ∷ []) tail M Q (tail + 1) (set M j via) (set Q tail j)
    reach_new via some =
        record {
          held = record { within = simp length-set (omega (arith, reach_room)); marked = rw (queue_is, length-set Q tail j) (new_marked h.marked j low none via some) };
          grown = rw queue_is (new_item h.marked j low none);
        }

-- a row is followed item by item
pub followed_none : (row : List ℕ) {tail : ℕ} {M Q : List ℕ} → Held tail M Q → Followed (take 0 row) tail M Q tail M Q
followed_none row h = record { held = h; grown = grown_none _ }

pub followed_more : {tail : ℕ} {M Q : List ℕ} (row : List ℕ) (p : ℕ) {tail' : ℕ} {M' Q' : List ℕ} {tail'' : ℕ} {M'' Q'' : List ℕ} → p < length row → Followed (take p row) tail M Q tail' M' Q'
    → Followed (get_or row p 0 ∷ []) tail' M' Q' tail'' M'' Q'' → Followed (take (p + 1) row) tail M Q tail'' M'' Q''
followed_more row p b f g = record { held = g.held; grown = rw (add-one p, take-suc row p 0 b) (grown_both f.grown g.grown) }

-- the search begins: no item is marked
pub searching_first : (next out : ℕ → List ℕ) (w : List ℕ) {k : ℕ} {M Q : List ℕ} → M ≡ replicate k 0 → k ≡ length Q → Searching next out w 0 0 0 M Q
searching_first next out w {k} {M} {Q} clear long =
    record {
      held = record { within = omega arith; marked = none_marked (length Q) M (rw clear (length-replicate {A = ℕ} k 0 ∙ long)) (λ i. rw clear (zeros k i)) };
      search = search_first next out w;
    }

module _ {next out : ℕ → List ℕ} {w : List ℕ} {q h tail : ℕ} {M Q : List ℕ} (s : Searching next out w q h tail M Q) where
  queue_long : length (take tail Q) ≡ tail
  queue_long = length-take-le tail Q s.held.within

  head_is : h < tail → get_or (take tail Q) h 0 ≡ get_or Q h 0
  head_is l = get_or-take tail Q h 0 l

  -- the row of the next item of w is followed
  pub searching_seed : {tail' : ℕ} {M' Q' : List ℕ} → q < length w → Followed (out (get_or w q 0)) tail M Q tail' M' Q' → Searching next out w (q + 1) h tail' M' Q'
  searching_seed l f = record { held = f.held; search = search_seed s.search l f.grown }

  -- the item at the queue's head
  pub head_low : h < tail → get_or Q h 0 < length Q
  head_low l = rw (head_is l) at (s.held.marked.queued (get_or (take tail Q) h 0) (get_or-∈ (take tail Q) h (omega (arith, queue_long)))).0

  pub searching_step : {tail' : ℕ} {M' Q' : List ℕ} → h < tail → Followed (next (get_or Q h 0)) tail M Q tail' M' Q' → Searching next out w q (h + 1) tail' M' Q'
  searching_step l f = record { held = f.held; search = search_step s.search (omega (arith, queue_long)) (rw (← head_is l) at f.grown) }

-- the search is over
pub searching_last : {next out : ℕ → List ℕ} {w : List ℕ} {h tail : ℕ} {M Q : List ℕ} → Searching next out w (length w) h tail M Q → tail ≤ h → Found next out w M
searching_last {h = h} {tail} {M} {Q} s l =
    let q : h ≡ length (take tail Q) = omega (arith, s.search.worked, length-take-le tail Q s.held.within) in
    all_found s.held.marked (rw q at s.search)
