-- What the searches and the settling of the lines come to, as the study's buffers and answers have it. Assumes nothing.
use Rattle.std.proofs.Common.{◌≡◌, ℕ, ◌<◌, ◌≤◌, Bool, true, false, not, List, [], ◌∷◌, ◌++◌, map, length, drop, is_some, Some, None, Ok, Option, sym, refl, ap, ◌∙◌, subst, arith}
use Rattle.lines.specs.declared.line.Line.{Line}
use Rattle.lines.specs.Limits.{max_inputs}
use Rattle.lines.specs.Lines.{Lawful, inputs}
use Rattle.times.specs.Kind.{Kind, Laws}
use Rattle.settling.specs.declared.latest.Latest.{Latest}
use Rattle.settling.specs.Latest.{in_setting}
use Rattle.settling.specs.Settle.{Settles, settled, settled_value, settled_time, as_settled, in_vector, tied_by}
use Rattle.settling.proofs.Bounds.{latest_exact}
use Rattle.search.specs.Search.{Vector, Setting, Outcome, undecided, vector, whole}
use Rattle.search.specs.Walk.{left_at}
use Rattle.search.specs.Worst.{Reached, worst_from, worst_vector}
use Rattle.seeking.specs.Outcomes.{time_found, LookedFor}
use Rattle.seeking.specs.Seeking.{settle_time, final_value, latest_time, latest_of_both, seek_search, worst_search}
use Rattle.seeking.proofs.Instance.{deciding, worst_of_lines}
use Rattle.turns.specs.Answers.{SettleTold}
use Rattle.turns.specs.Asked.{Told, told_seek}
use Rattle.turns.specs.Plain.{Plain, bits, bytes, written}
use Rattle.turns.proofs.Bytes.{vector_whole, whole_length}

undecided_within : (s : Setting) → undecided s ≤ length s
undecided_within [] = omega arith
undecided_within (Some x ∷ s) = omega (arith, undecided_within s)
undecided_within (None ∷ s) = omega (arith, undecided_within s)

pub few_undecided : (s : Setting) → length s ≤ max_inputs → undecided s ≤ max_inputs
few_undecided s h = omega (arith, undecided_within s)

-- a vector that the setting decides whole, written into its buffer
pub vector_shown : (w : Vector) (setting : Setting) → setting ≡ whole w → (before after : List ℕ) → after ≡ bytes (vector setting) ++ drop (length setting) before → after ≡ written w before
vector_shown w setting s before after e =
    e ∙ ap (λ x. bytes (vector x) ++ drop (length x) before) s ∙ ap (λ x. bytes x ++ drop (length (whole w)) before) (vector_whole w) ∙ ap (λ n. bytes w ++ drop n before) (whole_length w)

-- settle

pub settle_shown : {Time : Type 0} (kind : Kind Time) (seen plain : Plain) → seen ≡ plain → (vector : List ℕ) (given : Vector) → given ≡ bits vector → (values values' : List Bool) (times times' : List Time)
    → Settles kind (tied_by seen.ties) seen.lines (in_vector given) (as_settled kind values' times')
    → values' ≡ map settled_value (settled kind (tied_by seen.ties) seen.lines (in_vector given)) ++ drop (length seen.lines) values
    → times' ≡ map settled_time (settled kind (tied_by seen.ties) seen.lines (in_vector given)) ++ drop (length seen.lines) times
    → SettleTold kind plain vector values values' times times'
settle_shown kind seen plain e vector given f values values' times times' rules finals settles =
    subst (λ (p : Plain). SettleTold kind p vector values values' times times') e
    (record {
      rules = subst (λ v. Settles kind (tied_by seen.ties) seen.lines (in_vector v) (as_settled kind values' times')) f rules;
      values_are = subst (λ v. values' ≡ map settled_value (settled kind (tied_by seen.ties) seen.lines (in_vector v)) ++ drop (length seen.lines) values) f finals;
      times_are = subst (λ v. times' ≡ map settled_time (settled kind (tied_by seen.ties) seen.lines (in_vector v)) ++ drop (length seen.lines) times) f settles;
    })

-- seek

pub looked_at : {Time : Type 0} (kind : Kind Time) (seen plain : Plain) → seen ≡ plain → (seen_line line : ℕ) → seen_line ≡ line → (value : Bool) (bound : Time) (after : Setting) (found : Option Time) (looks : ℕ)
    → LookedFor kind seen.lines seen.ties seen_line (seek_search kind seen.lines seen.ties seen_line value bound) after found looks → LookedFor kind plain.lines plain.ties line (seek_search kind plain.lines plain.ties line value bound) after found looks
looked_at kind seen plain e seen_line line f value bound after found looks l =
    subst (λ (p : Plain). LookedFor kind p.lines p.ties line (seek_search kind p.lines p.ties line value bound) after found looks) e
    (subst (λ k. LookedFor kind seen.lines seen.ties k (seek_search kind seen.lines seen.ties k value bound) after found looks) f l)

module _ {Time : Type 0} (kind : Kind Time) (lines : List Line) (ties : Setting) (line : ℕ) (outcome : Outcome) (after : Setting) (found : Option Time) (looks : ℕ) (l : LookedFor kind lines ties line outcome after found looks) where
  pub found_of : (time : Time) → found ≡ Some time → (w : Vector) × (outcome.found ≡ Some w) × (settle_time kind lines ties line w ≡ time) × (after ≡ whole w)
  found_of time is = go outcome.found refl (sym is ∙ l.found_is) l.setting_is
    where
      go : (f : Option Vector) → outcome.found ≡ f → Some time ≡ time_found kind lines ties line f → after ≡ left_at f ties → (w : Vector) × (outcome.found ≡ Some w) × (settle_time kind lines ties line w ≡ time) × (after ≡ whole w)
      go (Some w) e t s = (w, e, cc, s)
      go None e t s = let z : ◌≡◌ {A = ℕ} 0 1 = cc in absurd (omega arith)

  pub nothing_of : found ≡ None → outcome.found ≡ None
  nothing_of is = go outcome.found refl (sym is ∙ l.found_is)
    where
      go : (f : Option Vector) → outcome.found ≡ f → None ≡ time_found kind lines ties line f → outcome.found ≡ None
      go (Some w) e t = let z : ◌≡◌ {A = ℕ} 0 1 = cc in absurd (omega arith)
      go None e t = e

pub told_looked : {Time : Type 0} {f f' : Option Time} {n n' : ℕ} {v v' : List ℕ} (work : List (Latest Time)) → f ≡ f' → n ≡ n' → v ≡ v'
    → ◌≡◌ {A = Told Time} (told_seek (Ok (record { found = f; looks = n })) v work) (told_seek (Ok (record { found = f'; looks = n' })) v' work)
told_looked work a b c = λ i. told_seek (Ok (record { found = a i; looks = b i })) (c i) work

-- worst

pub worst_is : {Time : Type 0} (kind : Kind Time) (seen plain : Plain) → seen ≡ plain → (seen_line line : ℕ) → seen_line ≡ line → (best : Option (Reached Time))
    → best ≡ worst_from kind.at_or_before (latest_of_both kind seen.lines seen.ties seen_line) (undecided plain.ties) plain.ties None → worst_search kind plain.lines plain.ties line ≡ best
unfolding worst_vector
worst_is kind seen plain e seen_line line f best h =
    sym (h ∙ ap (λ (p : Plain). worst_from kind.at_or_before (latest_of_both kind p.lines p.ties seen_line) (undecided plain.ties) plain.ties None) e ∙ ap (λ k. worst_from kind.at_or_before (latest_of_both kind plain.lines plain.ties k) (undecided plain.ties) plain.ties None) f)

pub never_none : {Time : Type 0} (kind : Kind Time) → Laws kind → (lines : List Line) (ties : Setting) (line : ℕ) → Lawful lines → length ties ≡ inputs lines → line < length lines → worst_search kind lines ties line ≡ None → ⊥
never_none kind laws lines ties line lawful n present e =
    let w = worst_of_lines kind laws lines ties line lawful n present in
    let same : None ≡ Some w.0 = sym e ∙ w.1 in
    let z : ◌≡◌ {A = ℕ} 0 1 = cc in omega arith

-- the final value is 1 where the vector, decided whole, has a latest time at 1
pub value_shown : {Time : Type 0} (kind : Kind Time) → (laws : Laws kind) → (lines : List Line) → (lawful : Lawful lines) → (ties : Setting) (line : ℕ) → (present : line < length lines) → (w : Vector) → length w ≡ inputs lines → is_some (latest_time kind lines ties line true (whole w)) ≡ final_value kind lines ties line w
value_shown {Time} kind laws lines lawful ties line present w n =
    let e = latest_exact kind laws (tied_by ties) lines (in_setting (whole w)) (in_vector w) lawful (deciding lines w n) line present in
    go (final_value kind lines ties line w) (settle_time kind lines ties line w) e.0 e.1
  where
    go : (b : Bool) (t : Time) → latest_time kind lines ties line b (whole w) ≡ Some t → latest_time kind lines ties line (not b) (whole w) ≡ None → is_some (latest_time kind lines ties line true (whole w)) ≡ b
    go true t p q = ap is_some p
    go false t p q = ap is_some q
