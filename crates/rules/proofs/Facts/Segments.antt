-- Laws of a segment: what a store inside and outside of it does, two workspaces that agree on it, and a part that was lent and has come back.
use Rattle.std.specs.Prelude.{ℕ, zero, suc, ◌+◌, ◌-◌, ◌≤◌, ◌<◌, List, [], ◌∷◌, ◌++◌, ◌≡◌, refl, length, get_or, take, drop, set, replicate}
use Rattle.std.proofs.Common.{sym, ap, ◌∙◌, arith, length-take, length-drop, length-append, length-take-le, get_or-append-add, get_or-take, get_or-drop, ext_get_or, drop-set-lt, take-take}
use Rattle.std.proofs.Math.ListN.{get_or-append}
use Rattle.std.proofs.lemmas.List.{length-replicate, get_or-replicate, take-set-le, drop-set-add, drop-append-le, take-append-le}
use Rattle.std.proofs.Math.Seq.{take-set-lt}
use Rattle.rules.specs.Lists.{seg}
use Rattle.rules.specs.Inner.Words.{filled, back}

module _ (base len : ℕ) (ws : List ℕ) where
  pub seg-at : (i : ℕ) → i < len → get_or (seg base len ws) i 0 ≡ get_or ws (base + i) 0
  seg-at i h = rw (get_or-take len (drop base ws) i 0 h, get_or-drop base ws i 0)

  pub seg-length : base + len ≤ length ws → length (seg base len ws) ≡ len
  seg-length h = simp (length-take, length-drop) (omega arith)

  pub seg-set_in : (i a : ℕ) → i < len → seg base len (set ws (base + i) a) ≡ set (seg base len ws) i a
  seg-set_in i a h = rw (drop-set-add base ws i a, take-set-lt len (drop base ws) i a h)

  pub seg-set_low : (p a : ℕ) → p < base → seg base len (set ws p a) ≡ seg base len ws
  seg-set_low p a h = rw (drop-set-lt base ws p a h)

  pub seg-set_high : (p a : ℕ) → base + len ≤ p → seg base len (set ws p a) ≡ seg base len ws
  seg-set_high p a h =
      let e : p ≡ base + (p - base) = omega arith in
      rw (e, drop-set-add base ws (p - base) a, take-set-le len (drop base ws) (p - base) a (omega arith))

-- two workspaces that agree at each place of a segment have the same segment
pub seg_same : (base len : ℕ) (ws ws' : List ℕ) → base + len ≤ length ws → length ws' ≡ length ws → ((i : ℕ) → i < len → get_or ws' (base + i) 0 ≡ get_or ws (base + i) 0) → seg base len ws' ≡ seg base len ws
seg_same base len ws ws' h e f =
    ext_get_or 0 (seg base len ws') (seg base len ws) (seg-length base len ws' (omega arith) ∙ sym (seg-length base len ws h))
    (λ i b. let b' : i < len = omega (arith, seg-length base len ws' (omega arith)) in seg-at base len ws' i b' ∙ f i b' ∙ sym (seg-at base len ws i b'))

-- a segment of the front part is that of the whole
pub seg_in_take : (base len b : ℕ) (ws : List ℕ) → base + len ≤ b → seg base len (take b ws) ≡ seg base len ws
seg_in_take zero len b ws h = take-take len b ws (omega arith)
seg_in_take (suc base) zero b ws h = refl
seg_in_take (suc base) (suc len) zero ws h = absurd (omega arith)
seg_in_take (suc base) (suc len) (suc b) [] h = refl
seg_in_take (suc base) (suc len) (suc b) (a ∷ ws) h = seg_in_take base (suc len) b ws (omega arith)

-- a segment of the front list is that of both
pub seg_left : (base len : ℕ) (r l : List ℕ) → base + len ≤ length r → seg base len (r ++ l) ≡ seg base len r
seg_left base len r l h = rw (drop-append-le base r l (omega arith)) (take-append-le len (drop base r) l (simp length-drop (omega arith)))

module _ (a k : ℕ) (ys ws : List ℕ) (fits : a + k ≤ length ws) (long : length ys ≡ k) where
  head_long : length (take a ws) ≡ a
  head_long = length-take-le a ws (omega arith)

  pub back-length : length (back a k ys ws) ≡ length ws
  back-length = simp (length-append, length-drop) (omega (arith, head_long))

  pub back_in : (i : ℕ) → i < k → get_or (back a k ys ws) (a + i) 0 ≡ get_or ys i 0
  back_in i h =
      let q : a + i ≡ length (take a ws) + i = omega (arith, head_long) in
      rw (q, get_or-append-add (take a ws) (ys ++ drop k (drop a ws)) i 0, get_or-append ys (drop k (drop a ws)) 0 i (omega arith))

  pub back-before : (p : ℕ) → p < a → get_or (back a k ys ws) p 0 ≡ get_or ws p 0
  back-before p h = get_or-append (take a ws) _ 0 p (omega (arith, head_long)) ∙ get_or-take a ws p 0 h

  pub back_after : (p : ℕ) → a + k ≤ p → get_or (back a k ys ws) p 0 ≡ get_or ws p 0
  back_after p h =
      let q : p ≡ length (take a ws) + (length ys + (p - (a + k))) = omega (arith, head_long) in
      let r : a + (k + (p - (a + k))) ≡ p = omega arith in
      ap (λ (j : ℕ). get_or (back a k ys ws) j 0) q
      ∙ rw (get_or-append-add (take a ws) (ys ++ drop k (drop a ws)) (length ys + (p - (a + k))) 0, get_or-append-add ys (drop k (drop a ws)) (p - (a + k)) 0, get_or-drop k (drop a ws) (p - (a + k)) 0, get_or-drop a ws (k + (p - (a + k))) 0, r)

  pub back-seg : seg a k (back a k ys ws) ≡ ys
  back-seg =
      ext_get_or 0 (seg a k (back a k ys ws)) ys (seg-length a k (back a k ys ws) (omega (arith, back-length)) ∙ sym long)
      (λ i h. let h' : i < k = omega (arith, seg-length a k (back a k ys ws) (omega (arith, back-length))) in seg-at a k (back a k ys ws) i h' ∙ back_in i h')

-- the segments beside a part that has come back
module _ (a k : ℕ) (ys ws : List ℕ) (fits : a + k ≤ length ws) (long : length ys ≡ k) where
  pub back-seg-before : (b len : ℕ) → b + len ≤ a → seg b len (back a k ys ws) ≡ seg b len ws
  back-seg-before b len h =
      seg_same b len ws (back a k ys ws) (omega arith) (back-length a k ys ws fits long) (λ i hi. back-before a k ys ws fits long (b + i) (omega arith))

  pub back-seg_after : (b len : ℕ) → a + k ≤ b → b + len ≤ length ws → seg b len (back a k ys ws) ≡ seg b len ws
  back-seg_after b len h g =
      seg_same b len ws (back a k ys ws) g (back-length a k ys ws fits long) (λ i hi. back_after a k ys ws fits long (b + i) (omega arith))

-- a list of which the front was filled
module _ (n a : ℕ) (l : List ℕ) where
  pub filled_front : (i : ℕ) → i < n → get_or (filled n a l) i 0 ≡ a
  filled_front i h = get_or-append (replicate n a) (drop n l) 0 i (simp length-replicate h) ∙ get_or-replicate n i a 0 h

  -- the front was lent and filled whole
  pub filled_lent : (y : List ℕ) → n ≤ length l → y ≡ replicate (length (take n l)) a → y ++ drop n l ≡ filled n a l
  filled_lent y h e = let q : y ≡ replicate n a = e ∙ ap (λ (k : ℕ). replicate k a) (length-take-le n l h) in ap (λ (z : List ℕ). z ++ drop n l) q

  pub filled_rest : (i : ℕ) → n ≤ i → get_or (filled n a l) i 0 ≡ get_or l i 0
  filled_rest i h =
      let q : i ≡ length (replicate n a) + (i - n) = simp length-replicate (omega arith) in
      let e : n + (i - n) ≡ i = omega arith in
      ap (λ (j : ℕ). get_or (filled n a l) j 0) q ∙ get_or-append-add (replicate n a) (drop n l) (i - n) 0 ∙ get_or-drop n l (i - n) 0 ∙ rw e

  pub filled_long : n ≤ length l → length (filled n a l) ≡ length l
  filled_long h = simp (length-append, length-replicate, length-drop) (omega arith)

-- a part that was filled
module _ (n a : ℕ) (l : List ℕ) (long : length l ≡ n) where
  pub filled-length : length (filled n a l) ≡ n
  filled-length = simp (length-append, length-replicate, length-drop) (omega arith)

  pub filled_at : (i : ℕ) → i < n → get_or (filled n a l) i 0 ≡ a
  filled_at i h = filled_front n a l i h
