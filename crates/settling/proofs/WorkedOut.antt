-- What is worked out for each line, from line 0 on. Assumes nothing.
use Rattle.std.proofs.Common.{◌≡◌, ℕ, zero, suc, ◌+◌, ◌<◌, List, [], ◌∷◌, ◌++◌, length, get_or, take, sym, refl, ap, ◌∙◌, subst, le_of_suc-le-suc, not-suc-le-zero, add-zero, zero-add, arith, length-append}
use Rattle.std.proofs.lemmas.List.{take_all, take-take, take_at, get_or-take, get_or_push, length_push}
use Rattle.lines.specs.declared.line.Line.{Line}
use Rattle.settling.specs.Settle.{worked_out}

-- what holds of a line where it holds of all lines below it holds of every line
pub line_by_line : (P : ℕ → Type 0) → ((number : ℕ) → ((below : ℕ) → below < number → P below) → P number) → (number : ℕ) → P number
line_by_line P step number = go (suc number) number (omega arith)
  where
    go : (bound number : ℕ) → number < bound → P number
    go zero number h = absurd (omega arith)
    go (suc bound) number h = step number (λ below b. go bound below (omega arith))

-- as many are worked out as there are lines
pub worked_out_length : {A : Type 0} (step : List A → Line → A) (known : List A) (lines : List Line) → length (worked_out step known lines) ≡ length known + length lines
worked_out_length step known [] = omega arith
worked_out_length step known (line ∷ lines) =
    omega (arith, worked_out_length step (known ++ (step known line ∷ [])) lines, length-append known (step known line ∷ []))

-- What is worked out for a line comes from what was worked out for those below it.

module _ {A : Type 0} (step : List A → Line → A) where
  worked_out_front : (known : List A) (lines : List Line) → take (length known) (worked_out step known lines) ≡ known
  worked_out_front known [] = take_all (length known) known (omega arith)
  worked_out_front known (line ∷ lines) =
      let more : List A = known ++ (step known line ∷ []) in
      let all : List A = worked_out step more lines in
      let longer : length more ≡ length known + 1 = length_push known (step known line) in
      sym (take-take (length known) (length more) all (omega arith)) ∙ ap (take (length known)) (worked_out_front more lines) ∙ take_at known (step known line ∷ []) (length known) refl

  worked_out_here : (known : List A) (line : Line) (lines : List Line) (d : A) → get_or (worked_out step known (line ∷ lines)) (length known) d ≡ step known line
  worked_out_here known line lines d =
      let more : List A = known ++ (step known line ∷ []) in
      let all : List A = worked_out step more lines in
      let longer : length more ≡ length known + 1 = length_push known (step known line) in
      sym (get_or-take (length more) all (length known) d (omega arith)) ∙ ap (λ (w : List A). get_or w (length known) d) (worked_out_front more lines) ∙ get_or_push known (step known line) d (length known) refl

  worked_out_at_from : (known : List A) (lines : List Line) (i : ℕ) (d : A) (e : Line) → i < length lines
      → get_or (worked_out step known lines) (length known + i) d ≡ step (take (length known + i) (worked_out step known lines)) (get_or lines i e)
  worked_out_at_from known [] i d e h = absurd (not-suc-le-zero h)
  worked_out_at_from known (line ∷ lines) zero d e h =
      let all : List A = worked_out step known (line ∷ lines) in
      subst (λ (n : ℕ). get_or all n d ≡ step (take n all) line) (sym (add-zero (length known)))
      (worked_out_here known line lines d ∙ ap (λ (k : List A). step k line) (sym (worked_out_front known (line ∷ lines))))
  worked_out_at_from known (line ∷ lines) (suc i) d e h =
      let more : List A = known ++ (step known line ∷ []) in
      let all : List A = worked_out step more lines in
      let longer : length more ≡ length known + 1 = length_push known (step known line) in
      let there : length more + i ≡ length known + suc i = omega arith in
      subst (λ (n : ℕ). get_or all n d ≡ step (take n all) (get_or lines i e)) there (worked_out_at_from more lines i d e (le_of_suc-le-suc h))

  pub worked_out_at : (lines : List Line) (i : ℕ) (d : A) (e : Line) → i < length lines → get_or (worked_out step [] lines) i d ≡ step (take i (worked_out step [] lines)) (get_or lines i e)
  worked_out_at lines i d e h =
      let all : List A = worked_out step [] lines in
      subst (λ (n : ℕ). get_or all n d ≡ step (take n all) (get_or lines i e)) (zero-add i) (worked_out_at_from [] lines i d e h)
