-- What an accepted call is seen to have, as no number fits it. Assumes nothing.
use Rattle.std.proofs.Common.{◌≡◌, ℕ, ◌<◌, ◌≤◌, Bool, List, length, get_or, Some, None, Option, refl, ⊎_elim, arith}
use Rattle.std.proofs.lemmas.List.{get_or_past}
use Rattle.std.proofs.lemmas.Bool.{cases_lt, cases_order}
use Rattle.lines.specs.Limits.{max_delay}
use Rattle.lines.specs.Lines.{line_at}
use Rattle.network.specs.Least.{NothingWrong}
use Rattle.turns.specs.Plain.{Plain}
use Rattle.turns.specs.Refusals.{SettleWrong, SeekWrong, WorstWrong, ShortenWrong, LengthenWrong, TieWrong, UntieWrong}

-- a number is below another, or that is refuted
pub below_or : (a b : ℕ) → (b ≤ a → ⊥) → a < b
below_or a b refute = ⊎_elim (λ h. h) (λ h. absurd (refute h)) (cases_lt a b)

pub within_or : (a b : ℕ) → (b < a → ⊥) → a ≤ b
within_or a b refute = ⊎_elim (λ h. absurd (refute h)) (λ h. h) (cases_lt b a)

module _ (plain : Plain) (line delay : ℕ) where
  module _ (none : NothingWrong (ShortenWrong plain line delay)) where
    pub shorten_fits : delay ≤ max_delay
    shorten_fits = within_or delay max_delay (λ h. none 5 (ShortenWrong.delay_above h))

    pub shorten_present : line < length plain.lines
    shorten_present = below_or line (length plain.lines) (λ h. none 10 (ShortenWrong.no_line h))

    pub shorten_no_more : delay ≤ (line_at plain.lines line).delay
    shorten_no_more = within_or delay (line_at plain.lines line).delay (λ h. none 13 (ShortenWrong.more shorten_present h))

  module _ (none : NothingWrong (LengthenWrong plain line delay)) where
    pub lengthen_fits : delay ≤ max_delay
    lengthen_fits = within_or delay max_delay (λ h. none 5 (LengthenWrong.delay_above h))

    pub lengthen_present : line < length plain.lines
    lengthen_present = below_or line (length plain.lines) (λ h. none 10 (LengthenWrong.no_line h))

module _ (plain : Plain) (line value : ℕ) where
  module _ (none : NothingWrong (TieWrong plain line value)) where
    pub tie_input : line < length plain.ties
    tie_input =
        let present = below_or line (length plain.lines) (λ h. none 10 (TieWrong.no_line h)) in
        below_or line (length plain.ties) (λ h. none 12 (TieWrong.a_cell present h))

    pub tie_untied : get_or plain.ties line None ≡ None
    tie_untied = go (get_or plain.ties line None) refl
      where
        go : (o : Option Bool) → get_or plain.ties line None ≡ o → get_or plain.ties line None ≡ None
        go None e = e
        go (Some at) e = absurd (none 12 (TieWrong.tied_already at e))

pub untie_input : (plain : Plain) (line : ℕ) → NothingWrong (UntieWrong plain line) → line < length plain.ties
untie_input plain line none =
    let present = below_or line (length plain.lines) (λ h. none 10 (UntieWrong.no_line h)) in
    below_or line (length plain.ties) (λ h. none 12 (UntieWrong.without_tie present (get_or_past plain.ties line None h)))

module _ (plain : Plain) (line value room work : ℕ) (none : NothingWrong (SeekWrong plain line value room work)) where
  pub seek_present : line < length plain.lines
  seek_present = below_or line (length plain.lines) (λ h. none 10 (SeekWrong.no_line h))

  pub seek_bit : value ≤ 1
  seek_bit = within_or value 1 (λ h. none 11 (SeekWrong.no_bit h))

  pub seek_room : length plain.ties ≤ room
  seek_room = within_or (length plain.ties) room (λ h. none 14 (SeekWrong.short_vector h))

  pub seek_work : length plain.lines ≤ work
  seek_work = within_or (length plain.lines) work (λ h. none 14 (SeekWrong.few_work h))

module _ (plain : Plain) (line room work : ℕ) (none : NothingWrong (WorstWrong plain line room work)) where
  pub worst_present : line < length plain.lines
  worst_present = below_or line (length plain.lines) (λ h. none 10 (WorstWrong.no_line h))

  pub worst_room : length plain.ties ≤ room
  worst_room = within_or (length plain.ties) room (λ h. none 14 (WorstWrong.short_vector h))

  pub worst_work : length plain.lines ≤ work
  worst_work = within_or (length plain.lines) work (λ h. none 14 (WorstWrong.few_work h))

module _ (plain : Plain) (vector : List ℕ) (values times : ℕ) (none : NothingWrong (SettleWrong plain vector values times)) where
  pub settle_as_long : length vector ≡ length plain.ties
  settle_as_long =
      ⊎_elim (λ e. e) (⊎_elim (λ lt. absurd (none 11 (SettleWrong.not_as_long (λ e. omega arith)))) (λ gt. absurd (none 11 (SettleWrong.not_as_long (λ e. omega arith))))) (cases_order (length vector) (length plain.ties))

  pub settle_values : length plain.lines ≤ values
  settle_values = within_or (length plain.lines) values (λ h. none 14 (SettleWrong.few_values h))

  pub settle_times : length plain.lines ≤ times
  settle_times = within_or (length plain.lines) times (λ h. none 14 (SettleWrong.few_times h))
