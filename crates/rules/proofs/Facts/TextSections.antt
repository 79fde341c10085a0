-- Laws of a text's sections: by the count, by what stands behind the last; and how long the sections of a whole text are.
use Rattle.std.specs.Prelude.{ℕ, zero, suc, ◌≤◌, ◌<◌, Bool, true, false, cond, List, [], ◌∷◌, ◌≡◌, refl, Ok, Err, Some, None, length, get_or, leb}
use Rattle.std.proofs.Common.{ap, arith, length-append}
use borrow.Author.Tests.{le-leb, lt-leb, leb-true}
use Rattle.rules.specs.Lists.{sum, concat}
use Rattle.rules.specs.Text.{Number, number_at, Numbers, all_read, fault, ahead, onward, numbers_at, counted, section_at, Sections, whole, broken, push, at_end, before, sections_at, limits, whole_text}
use Rattle.rules.specs.declared.Refusal.{Refusal}
use Rattle.rules.specs.declared.Refusal.TheVariants.{OverLimit, BadText}

-- a section, by its count
module _ (limit : ℕ) (t : List ℕ) (at : ℕ) where
  module _ (n e : ℕ) (q : number_at t at ≡ Ok (Some (n, e))) where
    pub section_read : n ≤ limit → section_at limit t at ≡ numbers_at n t e
    unfolding section_at
    section_read h = rw (q, le-leb n limit h)

    pub section_over : limit < n → section_at limit t at ≡ fault [] OverLimit
    unfolding section_at
    section_over h = rw (q, lt-leb n limit h)

  pub section_nothing : number_at t at ≡ Ok None → section_at limit t at ≡ fault [] BadText
  unfolding section_at
  section_nothing q = rw q

  pub section_bad : (why : Refusal) → number_at t at ≡ Err why → section_at limit t at ≡ fault [] why
  unfolding section_at
  section_bad why q = rw q

-- behind the last section
module _ (t : List ℕ) (at : ℕ) where
  pub sections_end : number_at t at ≡ Ok None → sections_at [] t at ≡ whole []
  unfolding sections_at
  sections_end q = rw q

  pub sections_value : (n e : ℕ) → number_at t at ≡ Ok (Some (n, e)) → sections_at [] t at ≡ broken [] [] BadText
  unfolding sections_at
  sections_value n e q = rw q

  pub sections_bad : (why : Refusal) → number_at t at ≡ Err why → sections_at [] t at ≡ broken [] [] why
  unfolding sections_at
  sections_bad why q = rw q

-- how many numbers were read, where all were
ahead_read : (m : ℕ) (g : Numbers) (ns : List ℕ) (e : ℕ) → ahead m g ≡ all_read ns e → (ms : List ℕ) × (g ≡ all_read ms e) × (ns ≡ m ∷ ms)
ahead_read m (all_read ms end) ns e q = (ms, let z : end ≡ e = cc in rw z, cc)
ahead_read m (fault ms why) ns e q = let z : ◌≡◌ {A = ℕ} 0 1 = cc in absurd (omega arith)

pub numbers_count : (k : ℕ) (t : List ℕ) (at : ℕ) (ns : List ℕ) (e : ℕ) → numbers_at k t at ≡ all_read ns e → length ns ≡ k
unfolding numbers_at
numbers_count zero t at ns e q = let z : ns ≡ [] = cc in rw z
numbers_count (suc k) t at ns e q = go (number_at t at) (λ p ms r. numbers_count k t p ms e r) q
  where
    go : (v : Number) → ((p : ℕ) (ms : List ℕ) → numbers_at k t p ≡ all_read ms e → length ms ≡ k) → onward v (numbers_at k t) ≡ all_read ns e → length ns ≡ suc k
    go (Ok (Some (m, p))) ih r = let (ms, h, s) = ahead_read m (numbers_at k t p) ns e r in rw s (ap suc (ih p ms h))
    go (Ok None) ih r = let z : ◌≡◌ {A = ℕ} 0 1 = cc in absurd (omega arith)
    go (Err why) ih r = let z : ◌≡◌ {A = ℕ} 0 1 = cc in absurd (omega arith)

pub section_count : (limit : ℕ) (t : List ℕ) (at : ℕ) (ns : List ℕ) (e : ℕ) → section_at limit t at ≡ all_read ns e → length ns ≤ limit
unfolding section_at
section_count limit t at ns e q = go (number_at t at) q
  where
    in_limit : (m p : ℕ) (b : Bool) → leb m limit ≡ b → cond b (numbers_at m t p) (fault [] OverLimit) ≡ all_read ns e → length ns ≤ limit
    in_limit m p true h r = omega (arith, numbers_count m t p ns e r, leb-true m limit h)
    in_limit m p false h r = let z : ◌≡◌ {A = ℕ} 0 1 = cc in absurd (omega arith)

    go : (v : Number) → counted limit v (λ k end. numbers_at k t end) ≡ all_read ns e → length ns ≤ limit
    go (Ok (Some (m, p))) r = in_limit m p (leb m limit) refl r
    go (Ok None) r = let z : ◌≡◌ {A = ℕ} 0 1 = cc in absurd (omega arith)
    go (Err why) r = let z : ◌≡◌ {A = ℕ} 0 1 = cc in absurd (omega arith)

-- SECTIONS KEEP THEIR LIMITS
pub record Fit (limits : List ℕ) (ls : List (List ℕ)) : Type 0 where
  pub many : length ls ≡ length limits
  pub each : (k : ℕ) → length (get_or ls k []) ≤ get_or limits k 0
  pub long : length (concat ls) ≤ sum limits

push_whole : (ns : List ℕ) (s : Sections) (ls : List (List ℕ)) → push ns s ≡ whole ls → (r : List (List ℕ)) × (s ≡ whole r) × (ls ≡ ns ∷ r)
push_whole ns (whole r) ls e = (r, refl, cc)
push_whole ns (broken r ms why) ls e = let z : ◌≡◌ {A = ℕ} 0 1 = cc in absurd (omega arith)

fit_none : Fit [] []
fit_none = record { many = refl; each = λ k. omega arith; long = omega arith }

fit_more : (limit : ℕ) (limits ns : List ℕ) (ls : List (List ℕ)) → length ns ≤ limit → Fit limits ls → Fit (limit ∷ limits) (ns ∷ ls)
fit_more limit limits ns ls h f = record { many = ap suc f.many; each = each; long = simp length-append (omega (arith, f.long)) }
  where
    each : (k : ℕ) → length (get_or (ns ∷ ls) k []) ≤ get_or (limit ∷ limits) k 0
    each zero = h
    each (suc k) = f.each k

pub sections_fit : (limits t : List ℕ) (at : ℕ) (ls : List (List ℕ)) → sections_at limits t at ≡ whole ls → Fit limits ls
unfolding sections_at
sections_fit [] t at ls e = go (number_at t at) e
  where
    go : (v : Number) → at_end v ≡ whole ls → Fit [] ls
    go (Ok None) q = let z : ls ≡ [] = cc in rw z fit_none
    go (Ok (Some (n, p))) q = let z : ◌≡◌ {A = ℕ} 0 1 = cc in absurd (omega arith)
    go (Err why) q = let z : ◌≡◌ {A = ℕ} 0 1 = cc in absurd (omega arith)
sections_fit (limit ∷ limits) t at ls e = go (section_at limit t at) (λ ns p q. section_count limit t at ns p q) (λ p r q. sections_fit limits t p r q) e
  where
    go : (g : Numbers) → ((ns : List ℕ) (p : ℕ) → g ≡ all_read ns p → length ns ≤ limit) → ((p : ℕ) (r : List (List ℕ)) → sections_at limits t p ≡ whole r → Fit limits r) → before g (sections_at limits t) ≡ whole ls → Fit (limit ∷ limits) ls
    go (all_read ns p) h ih q = let (r, s, z) = push_whole ns (sections_at limits t p) ls q in rw z (fit_more limit limits ns r (h ns p refl) (ih p r s))
    go (fault ns why) h ih q = let z : ◌≡◌ {A = ℕ} 0 1 = cc in absurd (omega arith)

pub whole_fits : (t : List ℕ) (ls : List (List ℕ)) → whole_text t ≡ whole ls → Fit limits ls
whole_fits t ls e = sections_fit limits t 0 ls e
