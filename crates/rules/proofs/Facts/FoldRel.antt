-- Folding over any graph: a path folds link by link, and a folded path lifts to one or two paths.
use Rattle.std.specs.Prelude.{ℕ, ◌≡◌, ◌⊎◌, ◌↔◌}
use Rattle.std.proofs.Common.{sym, ◌∙◌, subst, inl, inr}
use Rattle.rules.specs.Graph.{Route, one, more, first, NoCycle}
use Rattle.rules.proofs.Facts.Routes.{join, join_first}

-- F is St with the nodes of S made one by q, without the links of X
pub record Folding (St F : ℕ → ℕ → ℕ → Type 0) (In S X : ℕ → Type 0) (q : ℕ → ℕ) : Type 0 where
  pub dec_s : (u : ℕ) → Dec (S u)
  pub dec_x : (e : ℕ) → Dec (X e)
  pub ends : (u e v : ℕ) → St u e v → In u × In v
  pub closed : (u e v : ℕ) → X e → St u e v → S u × S v
  pub together : (u v : ℕ) → S u → S v → q u ≡ q v
  pub apart : (u v : ℕ) → In u → In v → ¬ S u → q u ≡ q v → u ≡ v
  pub down : (u e v : ℕ) → St u e v → ¬ X e → (j : ℕ) × F (q u) j (q v)
  pub up : (a j b : ℕ) → F a j b → (u e v : ℕ) × St u e v × (¬ X e) × (q u ≡ a) × (q v ≡ b)

abbrev pub Cvx : (St : ℕ → ℕ → ℕ → Type 0) (S X : ℕ → Type 0) → Type 0
Cvx St S X = (u v : ℕ) (r : Route St u v) → S u → S v → ¬ (¬ X (first r))

module _ {St F : ℕ → ℕ → ℕ → Type 0} {In S X : ℕ → Type 0} {q : ℕ → ℕ} (h : Folding St F In S X q) where
  from : {a b c : ℕ} → a ≡ b → Route F b c → Route F a c
  from {c = c} e r = subst (λ z. Route F z c) (sym e) r

  to : {a b c : ℕ} → b ≡ c → Route F a b → Route F a c
  to {a = a} e r = subst (λ z. Route F a z) e r

  -- a path folds to a path, or to nothing
  down_any : {u v : ℕ} → Route St u v → (q u ≡ q v) ⊎ Route F (q u) (q v)
  down_any {u} {v} (one {e = e} s) = go (h.dec_x e)
    where
      go : Dec (X e) → (q u ≡ q v) ⊎ Route F (q u) (q v)
      go (yes x) = let p = h.closed u e v x s in inl (h.together u v p.0 p.1)
      go (no n) = inr (one (h.down u e v s n).1)
  down_any {u} {v} (more {e = e} {v = z} s r) = go (h.dec_x e) (down_any r)
    where
      go : Dec (X e) → (q z ≡ q v) ⊎ Route F (q z) (q v) → (q u ≡ q v) ⊎ Route F (q u) (q v)
      go (yes x) (inl e') = let p = h.closed u e z x s in inl (h.together u z p.0 p.1 ∙ e')
      go (yes x) (inr t) = let p = h.closed u e z x s in inr (from (h.together u z p.0 p.1) t)
      go (no n) (inl e') = inr (to e' (one (h.down u e z s n).1))
      go (no n) (inr t) = inr (more (h.down u e z s n).1 t)

  down_first : {u v : ℕ} (r : Route St u v) → ¬ X (first r) → Route F (q u) (q v)
  down_first {u} {v} (one {e = e} s) n = one (h.down u e v s n).1
  down_first {u} {v} (more {e = e} {v = z} s r) n = go (down_any r)
    where
      go : (q z ≡ q v) ⊎ Route F (q z) (q v) → Route F (q u) (q v)
      go (inl e') = to e' (one (h.down u e z s n).1)
      go (inr t) = more (h.down u e z s n).1 t

  pub fold→convex : NoCycle F → Cvx St S X
  fold→convex f u v r su sv n = f (q u) (to (h.together v u sv su) (down_first r n))

  starts : {u v : ℕ} → Route St u v → In u
  starts {u} {v} (one {e = e} s) = (h.ends u e v s).0
  starts {u} (more {e = e} {v = z} s r) = (h.ends u e z s).0

  finishes : {u v : ℕ} → Route St u v → In v
  finishes {u} {v} (one {e = e} s) = (h.ends u e v s).1
  finishes (more s r) = finishes r

  share : {u v : ℕ} → In u → In v → q u ≡ q v → S v → S u
  share {u} {v} iu iv e sv = go (h.dec_s u)
    where
      go : Dec (S u) → S u
      go (yes su) = su
      go (no n) = subst S (sym (h.apart u v iu iv n e)) sv

  -- a path that begins with an unselected link
  record Lone (u v : ℕ) : Type 0 where
    route : Route St u v
    begins : ¬ X (first route)

  -- a path of the folded graph, lifted: whole, or broken at the folded node
  data Lifted (a b : ℕ) : Type 0 where
    whole : (u v : ℕ) → q u ≡ a → q v ≡ b → Lone u v → Lifted a b
    broken : (u s t v : ℕ) → q u ≡ a → q v ≡ b → S s → S t → Lone u s → Lone t v → Lifted a b

  ahead : {u e v w : ℕ} → St u e v → ¬ X e → Lone v w → Lone u w
  ahead s n l = record { route = more s l.route; begins = n }

  lift : {a b : ℕ} → Route F a b → Lifted a b
  lift {a} {b} (one {e = j} f) = let (u, e, v, s, n, eu, ev) = h.up a j b f in whole u v eu ev (record { route = one s; begins = n })
  lift {a} {b} (more {e = j} {v = z} f r) = let (u, e, v, s, n, eu, ev) = h.up a j z f in go u e v s n eu ev (h.dec_s v) (lift r)
    where
      go : (u e v : ℕ) → St u e v → ¬ X e → q u ≡ a → q v ≡ z → Dec (S v) → Lifted z b → Lifted a b
      go u e v s n eu ev (yes sv) (whole u' v' eu' ev' l) =
          broken u v u' v' eu ev' sv (share (starts l.route) (h.ends u e v s).1 (eu' ∙ sym ev) sv) (record { route = one s; begins = n }) l
      go u e v s n eu ev (yes sv) (broken u' s' t' v' eu' ev' ss st l k) = broken u v t' v' eu ev' sv st (record { route = one s; begins = n }) k
      go u e v s n eu ev (no nv) (whole u' v' eu' ev' l) =
          let same : v ≡ u' = h.apart v u' (h.ends u e v s).1 (starts l.route) nv (ev ∙ sym eu') in
          whole u v' eu ev' (ahead s n (subst (λ y. Lone y v') (sym same) l))
      go u e v s n eu ev (no nv) (broken u' s' t' v' eu' ev' ss st l k) =
          let same : v ≡ u' = h.apart v u' (h.ends u e v s).1 (starts l.route) nv (ev ∙ sym eu') in
          broken u s' t' v' eu ev' ss st (ahead s n (subst (λ y. Lone y s') (sym same) l)) k

  pub convex→fold : NoCycle St → Cvx St S X → NoCycle F
  convex→fold acyclic c a r = go (lift r)
    where
      go : Lifted a a → ⊥
      go (whole u v eu ev l) = at_u (h.dec_s u)
        where
          at_u : Dec (S u) → ⊥
          at_u (yes su) = c u v l.route su (share (finishes l.route) (starts l.route) (ev ∙ sym eu) su) l.begins
          at_u (no n) = acyclic u (subst (λ y. Route St u y) (sym (h.apart u v (starts l.route) (finishes l.route) n (eu ∙ sym ev))) l.route)
      go (broken u s t v eu ev ss st l k) = at_u (h.dec_s u)
        where
          at_u : Dec (S u) → ⊥
          at_u (yes su) = c u s l.route su ss l.begins
          at_u (no n) =
              let same : u ≡ v = h.apart u v (starts l.route) (finishes k.route) n (eu ∙ sym ev) in
              let m : Lone v s = subst (λ y. Lone y s) same l in
              c t s (join k.route m.route) st ss (λ x. k.begins (rw join_first at x))

  pub fold_iff : NoCycle St → Cvx St S X ↔ NoCycle F
  fold_iff acyclic = (convex→fold acyclic, fold→convex)
