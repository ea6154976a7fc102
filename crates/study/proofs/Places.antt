-- The fields of a study: ties in the first places of an array, ceilings in those of a buffer, lawful lines. Assumes nothing.
use Rattle.std.proofs.Common.{◌≡◌, ℕ, zero, suc, ◌*◌, ◌<◌, ◌≤◌, Bool, true, false, not, List, [], ◌∷◌, length, get_or, take, set, replicate, is_some, Some, None, Option, sym, refl, ap, ◌∙◌, subst, ⊎_elim, arith}
use mathlib.Core.Logic.{∥∥₁_map}
use Rattle.std.proofs.lemmas.List.{get_or_read_under, length-take-le}
use Rattle.std.proofs.lemmas.Bool.{cases_lt}
use Rattle.lines.specs.declared.line.Line.{Line}
use Rattle.lines.specs.Limits.{max_delay, max_inputs}
use Rattle.lines.specs.Lines.{inputs, Lawful}
use Rattle.lines.proofs.Lawfuls.{lawful_of}
use Rattle.times.specs.Kind.{Kind}
use Rattle.search.specs.Search.{Setting}
use Rattle.turns.specs.Plain.{Plain, opened, with_delay}
use Rattle.turns.proofs.Findings.{lawful_delay}
use Rattle.study.specs.declared.study.Study.{Study}
use Rattle.network.specs.Least.{Least, NothingWrong}
use Rattle.study.specs.Standing.{plain_of, ceilings_of, place, ceiling, covers, Cleared, OpenWrong}

pub lawful_with : (lines : List Line) (line delay : ℕ) → delay ≤ max_delay → ∥ Lawful lines ∥₁ → ∥ Lawful (with_delay lines line delay) ∥₁
lawful_with lines line delay fits t = ∥∥₁_map t (lawful_delay lines line delay fits)

module _ {Time : Type 0} (study : Study Time) where
  pub lawful_lines : Lawful (plain_of study).lines
  lawful_lines = lawful_of (plain_of study).lines study.lawful

  pub ties_long : length (plain_of study).ties ≡ study.inputs
  ties_long = length-take-le study.inputs study.ties (let a = study.few in let b = study.whole in omega (arith, a, b))

  pub ties_counted : length (plain_of study).ties ≡ inputs (plain_of study).lines
  ties_counted = ties_long ∙ study.counted

-- the study as it is lent to the searches
pub lent : {Time : Type 0} (study : Study Time) (lines : List Line) (ties : Setting) → lines ≡ (plain_of study).lines → ties ≡ (plain_of study).ties → ◌≡◌ {A = Plain} (record { lines = lines; ties = ties }) (plain_of study)
lent study lines ties e f = λ i. record { lines = e i; ties = f i }

pub take_set : (n : ℕ) (ties : Setting) (i : ℕ) (o : Option Bool) → i < n → take n (set ties i o) ≡ set (take n ties) i o
take_set zero ties i o h = absurd (omega arith)
take_set (suc n) [] i o h = refl
take_set (suc n) (t ∷ ties) zero o h = refl
take_set (suc n) (t ∷ ties) (suc i) o h = ap (λ s. t ∷ s) (take_set n ties i o (omega arith))

none_tied : (n m : ℕ) → n ≤ m → take n (replicate {A = Option Bool} m None) ≡ replicate n None
none_tied zero m h = refl
none_tied (suc n) zero h = absurd (omega arith)
none_tied (suc n) (suc m) h = ap (λ s. None ∷ s) (none_tied n m (omega arith))

pub opened_is : (lines : List Line) (count : ℕ) → count ≤ max_inputs → count ≡ inputs lines → ◌≡◌ {A = Plain} (record { lines = lines; ties = take count (replicate max_inputs None) }) (opened lines)
opened_is lines count few counted =
    ap (λ (ties : Setting). record { lines = lines; ties = ties }) (none_tied count max_inputs few ∙ ap (λ (n : ℕ). replicate n None) counted)

-- a tie that is there, or not, by the code's two tests

pub some_of : (o : Option Bool) (r : Bool) → r ≡ is_some o → r ≡ true → (b : Bool) × (o ≡ Some b)
some_of (Some b) r e f = (b, refl)
some_of None r e f = let z : ◌≡◌ {A = ℕ} 0 1 = cc in absurd (omega arith)

pub none_of : (o : Option Bool) (r : Bool) → r ≡ is_some o → r ≡ false → o ≡ None
none_of (Some b) r e f = let z : ◌≡◌ {A = ℕ} 0 1 = cc in absurd (omega arith)
none_of None r e f = refl

pub none_of_not : {X : Type 0} (o : Option X) (r : Bool) → is_some o ≡ not r → r ≡ true → o ≡ None
none_of_not (Some x) r e f = let z : ◌≡◌ {A = ℕ} 0 1 = cc in absurd (omega arith)
none_of_not None r e f = refl

pub some_of_not : {X : Type 0} (o : Option X) (r : Bool) → is_some o ≡ not r → r ≡ false → (x : X) × (o ≡ Some x)
some_of_not (Some x) r e f = (x, refl)
some_of_not None r e f = let z : ◌≡◌ {A = ℕ} 0 1 = cc in absurd (omega arith)

pub cleared_moved : {Time : Type 0} (n m : ℕ) (a a' b b' : List (Option Time)) → n ≡ m → a ≡ a' → b ≡ b' → Cleared n a b → Cleared m a' b'
cleared_moved n m a a' b b' e f h c =
    subst (λ k. Cleared k a' b') e (subst (λ x. Cleared n x b') f (subst (λ x. Cleared n a x) h c))

-- opening

pub open_14 : (lines places : ℕ) → places < 2 * lines → Least (OpenWrong lines places) 14
open_14 lines places h = record { fits = OpenWrong.few_ceilings h; least = at_least }
  where
    at_least : (m : ℕ) → OpenWrong lines places m → 14 ≤ m
    at_least _ (OpenWrong.few_ceilings k) = omega arith

pub open_none : (lines places : ℕ) → 2 * lines ≤ places → NothingWrong (OpenWrong lines places)
open_none lines places h _ (OpenWrong.few_ceilings k) = omega arith

pub open_room : (lines places : ℕ) → NothingWrong (OpenWrong lines places) → 2 * lines ≤ places
open_room lines places none = ⊎_elim (λ h. absurd (none 14 (OpenWrong.few_ceilings h))) (λ h. h) (cases_lt places (2 * lines))

-- the ceiling as it is read
pub covers_read : {Time : Type 0} (kind : Kind Time) (study : Study Time) (line value : ℕ) (bound : Time) (at : ℕ) (seen : Option Time) (r b : Bool) → line < length (plain_of study).lines → value ≤ 1
    → at ≡ place line value → seen ≡ get_or (ceilings_of study) at seen → r ≡ covers kind bound seen → r ≡ b → covers kind bound (ceiling study line value) ≡ b
covers_read kind study line value bound at seen r b present bit e reads tests is =
    let within : place line value < length (ceilings_of study) = omega (arith, study.room, study.lines.ok.0, study.ceilings.ok.0) in
    let reads_there = reads ∙ ap (λ k. get_or (ceilings_of study) k seen) e in
    ap (covers kind bound) (sym (get_or_read_under (ceilings_of study) (place line value) (length (ceilings_of study)) seen None reads_there within refl)) ∙ sym tests ∙ is
