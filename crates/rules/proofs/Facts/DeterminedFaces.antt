-- THE C FACES ARE DETERMINED: two runs on the same input show a caller the same number, the same word and the same lent memory.
use Rattle.std.specs.Prelude.{ℕ, cond, List, ◌≡◌, Bool}
use Rattle.std.proofs.Common.{sym, ap, ◌∙◌}
use Rattle.rules.specs.Drawing.{Drawing, Maps, Boundary}
use Rattle.rules.specs.Refusals.{refusal_of}
use Rattle.rules.specs.Promises.{CheckDrawing, CheckMaps, CheckBoundary, WritesRows, RowsSize, IsAcyclic, Layer, LayeredOperations, Validate, IsMonomorphism, IsConvexSubgraph, Eval}
use Rattle.rules.specs.Faces.{DoneFace, VerdictFace, verdict_word, SizeFace, size_word, SoundFace, LayerAtFace}
use Rattle.rules.proofs.Facts.Determined.{check_drawing_determined, check_maps_determined, check_boundary_determined, validate_determined, writes_rows_determined, rows_size_determined, is_acyclic_determined, layer_determined, layered_operations_determined, offsets_sound_determined, is_monomorphism_determined, is_convex_subgraph_determined, eval_determined}
use Rattle.std.specs.Prelude.{Result}
use Rattle.rules.specs.declared.Refusal.{Refusal}

-- THE LAW. P and Q: what a call promises of its answer in two runs. Where they fix the answer, and R with it, then what a face shows of the
-- answer is fixed, and R with it. R is the lent memory: a face hands out the call's own.
abbrev Fixes : {A : Type 0} → (A → Type 0) → (A → Type 0) → Type 0 → Type 0
Fixes {A} P Q R = (a b : A) → P a → Q b → (a ≡ b) × R

shown : {A : Type 0} (shows : A → ℕ) {a b : A} {s t : ℕ} → a ≡ b → s ≡ shows a → t ≡ shows b → s ≡ t
shown shows e p q = p ∙ ap shows e ∙ sym q

-- a call that is lent nothing to write into
alone : {A : Type 0} {P Q : A → Type 0} → ((a b : A) → P a → Q b → a ≡ b) → Fixes P Q Unit
alone same a b p q = (same a b p q, tt)

-- as each kind of face shows it
done : {P Q : Result Unit Refusal → Type 0} {R : Type 0} {r q : ℕ} → Fixes P Q R → DoneFace P r → DoneFace Q q → (r ≡ q) × R
done fix f g = let e = fix f.answer g.answer f.promise g.promise in (shown refusal_of e.0 f.number g.number, e.1)

told : {P Q : Result Bool Refusal → Type 0} {R : Type 0} {word w₁ w₂ r q : ℕ} → Fixes P Q R → VerdictFace P word w₁ r → VerdictFace Q word w₂ q → (r ≡ q) × (w₁ ≡ w₂) × R
told {word = word} fix f g =
    let e = fix f.answer g.answer f.promise g.promise in
    (shown refusal_of e.0 f.number g.number, shown (λ a. verdict_word a word) e.0 f.told g.told, e.1)

sized : {P Q : Result ℕ Refusal → Type 0} {word w₁ w₂ r q : ℕ} → ((a b : Result ℕ Refusal) → P a → Q b → a ≡ b) → SizeFace P word w₁ r → SizeFace Q word w₂ q → (r ≡ q) × (w₁ ≡ w₂)
sized {word = word} same f g =
    let e = same f.answer g.answer f.promise g.promise in
    (shown refusal_of e f.number g.number, shown (λ a. size_word a word) e f.told g.told)

-- the checks and validation
pub check_drawing_face : {d : Drawing} {r q : ℕ} → DoneFace (CheckDrawing d) r → DoneFace (CheckDrawing d) q → r ≡ q
check_drawing_face f g = (done (alone (λ a b. check_drawing_determined)) f g).0

pub check_maps_face : {m : Maps} {r q : ℕ} → DoneFace (CheckMaps m) r → DoneFace (CheckMaps m) q → r ≡ q
check_maps_face f g = (done (alone (λ a b. check_maps_determined)) f g).0

pub check_boundary_face : {d : Drawing} {b : Boundary} {r q : ℕ} → DoneFace (CheckBoundary d b) r → DoneFace (CheckBoundary d b) q → r ≡ q
check_boundary_face f g = (done (alone (λ a b. check_boundary_determined)) f g).0

pub validate_face : {c d : Drawing} {m : Maps} {r q : ℕ} → DoneFace (Validate c d m) r → DoneFace (Validate c d m) q → r ≡ q
validate_face f g = (done (alone (λ a b. validate_determined)) f g).0

-- the converses and the adjacencies, and their sizes
pub writes_rows_face : {rows : ℕ → List ℕ} {k refused words r q : ℕ} {lens lens₁ lens₂ vals vals₁ vals₂ ws ws₁ ws₂ : List ℕ}
    → DoneFace (WritesRows rows k refused words lens lens₁ vals vals₁ ws ws₁) r → DoneFace (WritesRows rows k refused words lens lens₂ vals vals₂ ws ws₂) q
    → (r ≡ q) × ((lens₁ ≡ lens₂) × (vals₁ ≡ vals₂) × (ws₁ ≡ ws₂))
writes_rows_face = done (λ a b. writes_rows_determined)

pub rows_size_face : {d : Drawing} {rows : ℕ → List ℕ} {k word w₁ w₂ r q : ℕ} → SizeFace (RowsSize d rows k) word w₁ r → SizeFace (RowsSize d rows k) word w₂ q
    → (r ≡ q) × (w₁ ≡ w₂)
rows_size_face = sized (λ a b. rows_size_determined)

-- the walks
pub is_acyclic_face : {d : Drawing} {ws ws₁ ws₂ : List ℕ} {word w₁ w₂ r q : ℕ} → VerdictFace (IsAcyclic d ws ws₁) word w₁ r → VerdictFace (IsAcyclic d ws ws₂) word w₂ q
    → (r ≡ q) × (w₁ ≡ w₂) × (ws₁ ≡ ws₂)
is_acyclic_face = told (λ a b. is_acyclic_determined)

pub layer_face : {d : Drawing} {os os₁ os₂ ms ms₁ ms₂ ws ws₁ ws₂ : List ℕ} {r q : ℕ} → DoneFace (Layer d os os₁ ms ms₁ ws ws₁) r → DoneFace (Layer d os os₂ ms ms₂ ws ws₂) q
    → (r ≡ q) × ((os₁ ≡ os₂) × (ms₁ ≡ ms₂) × (ws₁ ≡ ws₂))
layer_face = done (λ a b. layer_determined)

pub layered_operations_face : {d : Drawing} {es es₁ es₂ offs offs₁ offs₂ ms ms₁ ms₂ ws ws₁ ws₂ : List ℕ} {r q : ℕ}
    → DoneFace (LayeredOperations d es es₁ offs offs₁ ms ms₁ ws ws₁) r → DoneFace (LayeredOperations d es es₂ offs offs₂ ms ms₂ ws ws₂) q
    → (r ≡ q) × ((es₁ ≡ es₂) × (offs₁ ≡ offs₂) × (ms₁ ≡ ms₂) × (ws₁ ≡ ws₂))
layered_operations_face = done (λ a b. layered_operations_determined)

-- the offset test and the layer lookup, which never refuse. The lookup's start does not follow from the part that the call hands back: the face
-- itself says it.
pub offsets_sound_face : {ops offsets : List ℕ} {w₁ w₂ r q : ℕ} → SoundFace ops offsets w₁ r → SoundFace ops offsets w₂ q → (r ≡ q) × (w₁ ≡ w₂)
offsets_sound_face f g = (f.number ∙ sym g.number, shown (λ a. cond a 1 0) (offsets_sound_determined f.promise g.promise) f.told g.told)

pub layer_at_face : {ops offsets : List ℕ} {i start₁ start₂ count₁ count₂ r q : ℕ} → LayerAtFace ops offsets i start₁ count₁ r → LayerAtFace ops offsets i start₂ count₂ q
    → (r ≡ q) × (start₁ ≡ start₂) × (count₁ ≡ count₂)
layer_at_face f g = (f.number ∙ sym g.number, f.start ∙ sym g.start, f.long ∙ sym g.long)

-- the maps
pub is_monomorphism_face : {m : Maps} {ws ws₁ ws₂ : List ℕ} {word w₁ w₂ r q : ℕ} → VerdictFace (IsMonomorphism m ws ws₁) word w₁ r → VerdictFace (IsMonomorphism m ws ws₂) word w₂ q
    → (r ≡ q) × (w₁ ≡ w₂) × (ws₁ ≡ ws₂)
is_monomorphism_face = told (λ a b. is_monomorphism_determined)

pub is_convex_subgraph_face : {c d : Drawing} {m : Maps} {ws ws₁ ws₂ : List ℕ} {word w₁ w₂ r q : ℕ}
    → VerdictFace (IsConvexSubgraph c d m ws ws₁) word w₁ r → VerdictFace (IsConvexSubgraph c d m ws ws₂) word w₂ q
    → (r ≡ q) × (w₁ ≡ w₂) × (ws₁ ≡ ws₂)
is_convex_subgraph_face = told (λ a b. is_convex_subgraph_determined)

-- evaluation
pub eval_face : {d : Drawing} {b : Boundary} {values out out₁ out₂ ws ws₁ ws₂ : List ℕ} {r q : ℕ} → DoneFace (Eval d b values out out₁ ws ws₁) r → DoneFace (Eval d b values out out₂ ws ws₂) q
    → (r ≡ q) × ((out₁ ≡ out₂) × (ws₁ ≡ ws₂))
eval_face = done (λ a b. eval_determined)
