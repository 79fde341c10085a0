-- DETERMINISM: two results that meet a call's promise on the same input are equal in answer, outputs and workspace. The C faces: DeterminedFaces.
use Rattle.std.specs.Prelude.{ℕ, Bool, List, [], ◌∷◌, ◌≡◌, refl, get_or, true, false}
use Rattle.std.proofs.Common.{sym, ap, ◌∙◌}
use Rattle.rules.specs.Drawing.{Drawing, Maps, Boundary}
use Rattle.rules.specs.Refusals.{number, refusal_of}
use Rattle.rules.specs.Promises.{CheckDrawing, CheckMaps, CheckBoundary, WritesRows, RowsSize, IsAcyclic, Layer, LayeredOperations, OffsetsSound, LayerAt, Validate, IsMonomorphism, IsConvexSubgraph, Eval}
use Rattle.rules.specs.declared.Refusal.{Refusal}
use Rattle.rules.specs.declared.Refusal.TheVariants.{OverLimit, BadLengths, BadValue, BadEntry, TypeMismatchW, TypeMismatchX, NotNaturalW, NotNaturalX, NotNaturalS, NotNaturalT, ShortRoom, BadBoundary, Unplaced, WrongOperation, BadText}
use Rattle.rules.proofs.Facts.Refusing.{number-some}
use Rattle.std.specs.Prelude.{Result, Ok, Err}

-- a refusal by its number; there is none of number 0
abbrev reason : ℕ → Refusal
reason k =
    get_or
    (BadText
    ∷ OverLimit
    ∷ BadLengths
    ∷ BadValue
    ∷ BadEntry
    ∷ TypeMismatchW
    ∷ TypeMismatchX
    ∷ NotNaturalW
    ∷ NotNaturalX
    ∷ NotNaturalS
    ∷ NotNaturalT
    ∷ ShortRoom
    ∷ BadBoundary
    ∷ Unplaced
    ∷ WrongOperation
    ∷ [])
    k BadText

reason_number : (why : Refusal) → reason (number why) ≡ why
reason_number OverLimit = refl
reason_number BadLengths = refl
reason_number BadValue = refl
reason_number BadEntry = refl
reason_number TypeMismatchW = refl
reason_number TypeMismatchX = refl
reason_number NotNaturalW = refl
reason_number NotNaturalX = refl
reason_number NotNaturalS = refl
reason_number NotNaturalT = refl
reason_number ShortRoom = refl
reason_number BadBoundary = refl
reason_number Unplaced = refl
reason_number WrongOperation = refl
reason_number BadText = refl

-- no two refusals have one number
pub number_same : (a b : Refusal) → number a ≡ number b → a ≡ b
number_same a b e = sym (reason_number a) ∙ ap reason e ∙ reason_number b

-- an answer that only refuses or does not is told by its number
pub done_same : (r s : Result Unit Refusal) → refusal_of r ≡ refusal_of s → r ≡ s
done_same (Ok a) (Ok b) e = refl
done_same (Ok a) (Err b) e = absurd (number-some b (sym e))
done_same (Err a) (Ok b) e = absurd (number-some a e)
done_same (Err a) (Err b) e = ap Err (number_same a b e)

-- one that decides is told by its number and by what it decides
pub verdict_same : {P : Type 0} (r s : Result Bool Refusal) → refusal_of r ≡ refusal_of s → (r ≡ Ok true → P) → (r ≡ Ok false → ¬ P) → (s ≡ Ok true → P) → (s ≡ Ok false → ¬ P) → r ≡ s
verdict_same (Ok true) (Ok true) e a b c d = refl
verdict_same (Ok true) (Ok false) e a b c d = absurd (d refl (a refl))
verdict_same (Ok false) (Ok true) e a b c d = absurd (b refl (c refl))
verdict_same (Ok false) (Ok false) e a b c d = refl
verdict_same (Err p) (Err q) e a b c d = ap Err (number_same p q e)
verdict_same (Err p) (Ok true) e a b c d = absurd (number-some p e)
verdict_same (Err p) (Ok false) e a b c d = absurd (number-some p e)
verdict_same (Ok true) (Err q) e a b c d = absurd (number-some q (sym e))
verdict_same (Ok false) (Err q) e a b c d = absurd (number-some q (sym e))

size_same : (n : ℕ) (r s : Result ℕ Refusal) → refusal_of r ≡ refusal_of s → ((k : ℕ) → r ≡ Ok k → k ≡ n) → ((k : ℕ) → s ≡ Ok k → k ≡ n) → r ≡ s
size_same n (Ok j) (Ok k) e a b = ap Ok (a j refl ∙ sym (b k refl))
size_same n (Ok j) (Err q) e a b = absurd (number-some q (sym e))
size_same n (Err p) (Ok k) e a b = absurd (number-some p e)
size_same n (Err p) (Err q) e a b = ap Err (number_same p q e)

-- the checks and validation
pub check_drawing_determined : {d : Drawing} {r s : Result Unit Refusal} → CheckDrawing d r → CheckDrawing d s → r ≡ s
check_drawing_determined {r = r} {s} p q = done_same r s (p.refusal ∙ sym q.refusal)

pub check_maps_determined : {f : Maps} {r s : Result Unit Refusal} → CheckMaps f r → CheckMaps f s → r ≡ s
check_maps_determined {r = r} {s} p q = done_same r s (p.refusal ∙ sym q.refusal)

pub check_boundary_determined : {d : Drawing} {b : Boundary} {r s : Result Unit Refusal} → CheckBoundary d b r → CheckBoundary d b s → r ≡ s
check_boundary_determined {r = r} {s} p q = done_same r s (p.refusal ∙ sym q.refusal)

pub validate_determined : {c d : Drawing} {f : Maps} {r s : Result Unit Refusal} → Validate c d f r → Validate c d f s → r ≡ s
validate_determined {r = r} {s} p q = done_same r s (p.refusal ∙ sym q.refusal)

-- the converses and the adjacencies, and their sizes
pub writes_rows_determined : {rows : ℕ → List ℕ} {k refused words : ℕ} {lens lens₁ lens₂ vals vals₁ vals₂ ws ws₁ ws₂ : List ℕ} {r s : Result Unit Refusal}
    → WritesRows rows k refused words lens lens₁ vals vals₁ ws ws₁ r → WritesRows rows k refused words lens lens₂ vals vals₂ ws ws₂ s
    → (r ≡ s) × ((lens₁ ≡ lens₂) × (vals₁ ≡ vals₂) × (ws₁ ≡ ws₂))
writes_rows_determined {r = r} {s} p q =
    let e : refusal_of r ≡ refusal_of s = p.refusal ∙ sym q.refusal in (
      done_same r s e,
      (p.lengths ∙ rw e (sym q.lengths), p.values ∙ rw e (sym q.values), p.workspace ∙ rw e (sym q.workspace)),
    )

pub rows_size_determined : {d : Drawing} {rows : ℕ → List ℕ} {k : ℕ} {r s : Result ℕ Refusal} → RowsSize d rows k r → RowsSize d rows k s → r ≡ s
rows_size_determined {r = r} {s} p q = size_same _ r s (p.refusal ∙ sym q.refusal) p.size q.size

-- the walks
pub is_acyclic_determined : {d : Drawing} {ws ws₁ ws₂ : List ℕ} {r s : Result Bool Refusal} → IsAcyclic d ws ws₁ r → IsAcyclic d ws ws₂ s → (r ≡ s) × (ws₁ ≡ ws₂)
is_acyclic_determined {r = r} {s} p q =
    let e : refusal_of r ≡ refusal_of s = p.refusal ∙ sym q.refusal in
    (verdict_same r s e p.yes p.no q.yes q.no, p.workspace ∙ rw e (sym q.workspace))

pub layer_determined : {d : Drawing} {os os₁ os₂ ms ms₁ ms₂ ws ws₁ ws₂ : List ℕ} {r s : Result Unit Refusal} → Layer d os os₁ ms ms₁ ws ws₁ r → Layer d os os₂ ms ms₂ ws ws₂ s
    → (r ≡ s) × ((os₁ ≡ os₂) × (ms₁ ≡ ms₂) × (ws₁ ≡ ws₂))
layer_determined {r = r} {s} p q =
    let e : refusal_of r ≡ refusal_of s = p.refusal ∙ sym q.refusal in
    (done_same r s e, (p.orders' ∙ rw e (sym q.orders'), p.marks' ∙ rw e (sym q.marks'), p.workspace ∙ rw e (sym q.workspace)))

pub layered_operations_determined : {d : Drawing} {es es₁ es₂ offs offs₁ offs₂ ms ms₁ ms₂ ws ws₁ ws₂ : List ℕ} {r s : Result Unit Refusal}
    → LayeredOperations d es es₁ offs offs₁ ms ms₁ ws ws₁ r → LayeredOperations d es es₂ offs offs₂ ms ms₂ ws ws₂ s
    → (r ≡ s) × ((es₁ ≡ es₂) × (offs₁ ≡ offs₂) × (ms₁ ≡ ms₂) × (ws₁ ≡ ws₂))
layered_operations_determined {r = r} {s} p q =
    let e : refusal_of r ≡ refusal_of s = p.refusal ∙ sym q.refusal in (
      done_same r s e,
      (p.operations' ∙ rw e (sym q.operations'), p.offsets' ∙ rw e (sym q.offsets'), p.marks' ∙ rw e (sym q.marks'), p.workspace ∙ rw e (sym q.workspace)),
    )

pub offsets_sound_determined : {ops offsets : List ℕ} {r s : Bool} → OffsetsSound ops offsets r → OffsetsSound ops offsets s → r ≡ s
offsets_sound_determined p q = p.answer ∙ sym q.answer

pub layer_at_determined : {ops offsets : List ℕ} {i : ℕ} {r s : List ℕ} → LayerAt ops offsets i r → LayerAt ops offsets i s → r ≡ s
layer_at_determined p q = p.answer ∙ sym q.answer

-- the maps
pub is_monomorphism_determined : {f : Maps} {ws ws₁ ws₂ : List ℕ} {r s : Result Bool Refusal} → IsMonomorphism f ws ws₁ r → IsMonomorphism f ws ws₂ s → (r ≡ s) × (ws₁ ≡ ws₂)
is_monomorphism_determined {r = r} {s} p q =
    let e : refusal_of r ≡ refusal_of s = p.refusal ∙ sym q.refusal in
    (verdict_same r s e p.yes p.no q.yes q.no, p.workspace ∙ rw e (sym q.workspace))

pub is_convex_subgraph_determined : {c d : Drawing} {f : Maps} {ws ws₁ ws₂ : List ℕ} {r s : Result Bool Refusal} → IsConvexSubgraph c d f ws ws₁ r → IsConvexSubgraph c d f ws ws₂ s
    → (r ≡ s) × (ws₁ ≡ ws₂)
is_convex_subgraph_determined {r = r} {s} p q =
    let e : refusal_of r ≡ refusal_of s = p.refusal ∙ sym q.refusal in
    (verdict_same r s e p.yes p.no q.yes q.no, p.workspace ∙ rw e (sym q.workspace))

-- evaluation
pub eval_determined : {d : Drawing} {b : Boundary} {values out out₁ out₂ ws ws₁ ws₂ : List ℕ} {r s : Result Unit Refusal} → Eval d b values out out₁ ws ws₁ r → Eval d b values out out₂ ws ws₂ s
    → (r ≡ s) × ((out₁ ≡ out₂) × (ws₁ ≡ ws₂))
eval_determined {r = r} {s} p q =
    let e : refusal_of r ≡ refusal_of s = p.refusal ∙ sym q.refusal in
    (done_same r s e, (p.output ∙ rw e (sym q.output), p.workspace ∙ rw e (sym q.workspace)))
