-- Forms printed one after another. Assumes nothing.
use Rattle.std.proofs.Common.{◌≡◌, ℕ, zero, suc, ◌+◌, ◌≤◌, true, false, List, [], ◌∷◌, ◌++◌, map, length, get_or, take, drop, Some, None, Option, sym, refl, ap, ◌∙◌, subst, append_assoc, append-nil, add-one, arith}
use Rattle.std.proofs.lemmas.List.{length-map, length-replicate, take_at}
use Rattle.lines.specs.declared.line.Line.{Line}
use Rattle.times.specs.declared.ticks.Ticks.{Ticks}
use Rattle.lines.specs.Lines.{inputs}
use Rattle.search.specs.Search.{Vector, Setting, Agrees}
use Rattle.turns.specs.Asked.{Told}
use Rattle.turns.specs.Plain.{bits, byte, bytes, written}
use Rattle.report.specs.Answers.{LineForm, named_from, untied, IsWorst, Printed, nothing, one_more}
use Rattle.report.specs.Plans.{Reaches, no_reply, a_reply}
use Rattle.report.specs.Told.{told_forms}
use Rattle.report.specs.Planned.{named_one}
use Rattle.report.specs.Texts.{worst_text}

pub printed_push : (lines : List Line) (forms : List LineForm) (out : List ℕ) (form : LineForm) (w : Vector) (t : Ticks) → IsWorst lines form.number w t → Printed lines forms out
    → Printed lines (forms ++ (form ∷ [])) (out ++ worst_text form.name t.ticks w)
printed_push lines forms out form w t h nothing = subst (λ v. Printed lines (form ∷ []) v) (append-nil (worst_text form.name t.ticks w)) (one_more form w t h nothing)
printed_push lines forms out form w t h (one_more {forms = fs} {out = o} f v u g p) =
    subst (λ x. Printed lines ((f ∷ fs) ++ (form ∷ [])) x) (sym (append_assoc (worst_text f.name u.ticks v) o (worst_text form.name t.ticks w))) (one_more f v u g (printed_push lines fs o form w t h p))

-- The forms among the first so many names.

named_suc : (number : ℕ) (names : List (Option (List ℕ))) (i : ℕ) → named_from number (take (suc i) names) ≡ named_from number (take i names) ++ named_one (number + i) (get_or names i None)
named_suc number [] zero = refl
named_suc number [] (suc i) = refl
named_suc number (None ∷ names) zero = refl
named_suc number (Some n ∷ names) zero = ap (λ k. record { number = k; name = n } ∷ []) (let e : number ≡ number + 0 = omega arith in e)
named_suc number (None ∷ names) (suc i) = named_suc (suc number) names i ∙ ap (λ k. named_from (suc number) (take i names) ++ named_one k (get_or names i None)) (let e : suc number + i ≡ number + suc i = omega arith in e)
named_suc number (Some n ∷ names) (suc i) = ap (λ v. record { number = number; name = n } ∷ v) (named_suc (suc number) names i ∙ ap (λ k. named_from (suc number) (take i names) ++ named_one k (get_or names i None)) (let e : suc number + i ≡ number + suc i = omega arith in e))

pub named_more : (number : ℕ) (names : List (Option (List ℕ))) (i : ℕ) → named_from number (take (i + 1) names) ≡ named_from number (take i names) ++ named_one (number + i) (get_or names i None)
named_more number names i = ap (λ k. named_from number (take k names)) (add-one i) ∙ named_suc number names i

pub named_few : (number : ℕ) (names : List (Option (List ℕ))) → length (named_from number names) ≤ length names
named_few number [] = omega arith
named_few number (None ∷ names) = omega (arith, named_few (suc number) names)
named_few number (Some n ∷ names) = omega (arith, named_few (suc number) names)

-- no reply is left
pub told_none : (inputs : ℕ) (names : List (List ℕ)) → told_forms inputs names [] ≡ []
told_none inputs [] = refl
told_none inputs (name ∷ names) = refl

-- a vector's bytes at the front of a buffer
bits_bytes : (w : Vector) → bits (bytes w) ≡ w
bits_bytes [] = refl
bits_bytes (true ∷ w) = ap (λ v. true ∷ v) (bits_bytes w)
bits_bytes (false ∷ w) = ap (λ v. false ∷ v) (bits_bytes w)

read_back : (w : Vector) (buffer : List ℕ) (n : ℕ) → length w ≡ n → bits (take n (written w buffer)) ≡ w
read_back w buffer n e =
    let long = length-map w byte ∙ e in
    ap bits (take_at (bytes w) (drop (length w) buffer) n long) ∙ bits_bytes w

agrees_long : (w : Vector) (s : Setting) → Agrees w s → length w ≡ length s
agrees_long [] [] a = refl
agrees_long [] (o ∷ s) a = absurd a
agrees_long (x ∷ w) [] a = absurd a
agrees_long (x ∷ w) (None ∷ s) a = ap suc (agrees_long w s a)
agrees_long (x ∷ w) (Some y ∷ s) a = ap suc (agrees_long w s a.1)

-- the replies that show the worst vectors of some forms are printed as those forms
pub reaches_printed : (lines : List Line) (forms : List LineForm) (replies : List (Told Ticks)) → Reaches lines forms replies → Printed lines forms (told_forms (inputs lines) (map (λ form. form.name) forms) replies)
reaches_printed lines [] [] no_reply = nothing
reaches_printed lines [] (r ∷ replies) h = elim h [ ]
reaches_printed lines (f ∷ forms) [] h = elim h [ ]
reaches_printed lines (f ∷ forms) (r ∷ replies) (a_reply form greatest w vector work worst more) =
    let rest = told_forms (inputs lines) (map (λ form. form.name) forms) replies in
    let back = read_back w vector (inputs lines) (agrees_long w (untied lines) worst.agrees ∙ length-replicate (inputs lines) None) in
    subst (λ v. Printed lines (f ∷ forms) (worst_text f.name greatest.time.ticks v ++ rest)) (sym back) (one_more f w greatest.time worst (reaches_printed lines forms replies more))
