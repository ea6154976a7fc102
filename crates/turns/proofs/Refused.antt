-- The smallest number that fits a call, and that none fits. Assumes nothing.
--     X-by       what holds of each number that fits the call X, one case for each
--     X-5, ..    that number is the smallest, and X-none: none fits
use Rattle.std.proofs.Common.{◌≡◌, ℕ, ◌<◌, ◌≤◌, Bool, List, length, get_or, Some, None, arith}
use Rattle.lines.specs.Limits.{max_delay}
use Rattle.lines.specs.Lines.{line_at}
use Rattle.network.specs.Least.{Least, NothingWrong}
use Rattle.turns.specs.Plain.{Plain, byte}
use Rattle.turns.specs.Refusals.{SettleWrong, SeekWrong, WorstWrong, ShortenWrong, LengthenWrong, TieWrong, UntieWrong}

module _ (plain : Plain) (line delay : ℕ) where
  shorten_by : (P : ℕ → Type 0) → (max_delay < delay → P 5) → (length plain.lines ≤ line → P 10) → ((line_at plain.lines line).delay < delay → P 13) → (m : ℕ) → ShortenWrong plain line delay m → P m
  shorten_by P above absent against _ (ShortenWrong.delay_above h) = above h
  shorten_by P above absent against _ (ShortenWrong.no_line h) = absent h
  shorten_by P above absent against _ (ShortenWrong.more h k) = against k

  pub shorten_5 : max_delay < delay → Least (ShortenWrong plain line delay) 5
  shorten_5 h = record { fits = ShortenWrong.delay_above h; least = shorten_by (λ m. 5 ≤ m) (λ _. omega arith) (λ _. omega arith) (λ _. omega arith) }

  module _ (fits : delay ≤ max_delay) where
    pub shorten_10 : length plain.lines ≤ line → Least (ShortenWrong plain line delay) 10
    shorten_10 h = record { fits = ShortenWrong.no_line h; least = shorten_by (λ m. 10 ≤ m) (λ k. omega arith) (λ _. omega arith) (λ _. omega arith) }

    module _ (present : line < length plain.lines) where
      pub shorten_13 : (line_at plain.lines line).delay < delay → Least (ShortenWrong plain line delay) 13
      shorten_13 h = record { fits = ShortenWrong.more present h; least = shorten_by (λ m. 13 ≤ m) (λ k. omega arith) (λ k. omega arith) (λ _. omega arith) }

      pub shorten_none : delay ≤ (line_at plain.lines line).delay → NothingWrong (ShortenWrong plain line delay)
      shorten_none h = shorten_by (λ _. ⊥) (λ k. omega arith) (λ k. omega arith) (λ k. omega arith)

module _ (plain : Plain) (line delay : ℕ) where
  lengthen_by : (P : ℕ → Type 0) → (max_delay < delay → P 5) → (length plain.lines ≤ line → P 10) → (delay ≤ (line_at plain.lines line).delay → P 13) → (m : ℕ) → LengthenWrong plain line delay m → P m
  lengthen_by P above absent against _ (LengthenWrong.delay_above h) = above h
  lengthen_by P above absent against _ (LengthenWrong.no_line h) = absent h
  lengthen_by P above absent against _ (LengthenWrong.same_or_less h k) = against k

  pub lengthen_5 : max_delay < delay → Least (LengthenWrong plain line delay) 5
  lengthen_5 h = record { fits = LengthenWrong.delay_above h; least = lengthen_by (λ m. 5 ≤ m) (λ _. omega arith) (λ _. omega arith) (λ _. omega arith) }

  module _ (fits : delay ≤ max_delay) where
    pub lengthen_10 : length plain.lines ≤ line → Least (LengthenWrong plain line delay) 10
    lengthen_10 h = record { fits = LengthenWrong.no_line h; least = lengthen_by (λ m. 10 ≤ m) (λ k. omega arith) (λ _. omega arith) (λ _. omega arith) }

    module _ (present : line < length plain.lines) where
      pub lengthen_13 : delay ≤ (line_at plain.lines line).delay → Least (LengthenWrong plain line delay) 13
      lengthen_13 h = record { fits = LengthenWrong.same_or_less present h; least = lengthen_by (λ m. 13 ≤ m) (λ k. omega arith) (λ k. omega arith) (λ _. omega arith) }

      pub lengthen_none : (line_at plain.lines line).delay < delay → NothingWrong (LengthenWrong plain line delay)
      lengthen_none h = lengthen_by (λ _. ⊥) (λ k. omega arith) (λ k. omega arith) (λ k. omega arith)

module _ (plain : Plain) (line value : ℕ) where
  tie_by : (P : ℕ → Type 0) → (length plain.lines ≤ line → P 10) → (1 < value → P 11) → (length plain.ties ≤ line → P 12) → ((at : Bool) → get_or plain.ties line None ≡ Some at → P 12) → (m : ℕ) → TieWrong plain line value m → P m
  tie_by P absent other cell tied _ (TieWrong.no_line h) = absent h
  tie_by P absent other cell tied _ (TieWrong.no_bit h) = other h
  tie_by P absent other cell tied _ (TieWrong.a_cell h k) = cell k
  tie_by P absent other cell tied _ (TieWrong.tied_already at h) = tied at h

  pub tie_10 : length plain.lines ≤ line → Least (TieWrong plain line value) 10
  tie_10 h = record { fits = TieWrong.no_line h; least = tie_by (λ m. 10 ≤ m) (λ _. omega arith) (λ _. omega arith) (λ _. omega arith) (λ _ _. omega arith) }

  module _ (present : line < length plain.lines) where
    pub tie_11 : 1 < value → Least (TieWrong plain line value) 11
    tie_11 h = record { fits = TieWrong.no_bit h; least = tie_by (λ m. 11 ≤ m) (λ k. omega arith) (λ _. omega arith) (λ _. omega arith) (λ _ _. omega arith) }

    module _ (bit : value ≤ 1) where
      pub tie_12 : TieWrong plain line value 12 → Least (TieWrong plain line value) 12
      tie_12 h = record { fits = h; least = tie_by (λ m. 12 ≤ m) (λ k. omega arith) (λ k. omega arith) (λ _. omega arith) (λ _ _. omega arith) }

      pub tie_none : line < length plain.ties → get_or plain.ties line None ≡ None → NothingWrong (TieWrong plain line value)
      tie_none input untied = tie_by (λ _. ⊥) (λ k. omega arith) (λ k. omega arith) (λ k. omega arith) (λ at e. let z : ◌≡◌ {A = ℕ} 0 1 = cc in omega arith)

module _ (plain : Plain) (line : ℕ) where
  untie_by : (P : ℕ → Type 0) → (length plain.lines ≤ line → P 10) → (get_or plain.ties line None ≡ None → P 12) → (m : ℕ) → UntieWrong plain line m → P m
  untie_by P absent untied _ (UntieWrong.no_line h) = absent h
  untie_by P absent untied _ (UntieWrong.without_tie h k) = untied k

  pub untie_10 : length plain.lines ≤ line → Least (UntieWrong plain line) 10
  untie_10 h = record { fits = UntieWrong.no_line h; least = untie_by (λ m. 10 ≤ m) (λ _. omega arith) (λ _. omega arith) }

  module _ (present : line < length plain.lines) where
    pub untie_12 : get_or plain.ties line None ≡ None → Least (UntieWrong plain line) 12
    untie_12 h = record { fits = UntieWrong.without_tie present h; least = untie_by (λ m. 12 ≤ m) (λ k. omega arith) (λ _. omega arith) }

    pub untie_none : (at : Bool) → get_or plain.ties line None ≡ Some at → NothingWrong (UntieWrong plain line)
    untie_none at tied = untie_by (λ _. ⊥) (λ k. omega arith) (λ e. let z : ◌≡◌ {A = ℕ} 0 1 = cc in omega arith)

module _ (plain : Plain) (line value room work : ℕ) where
  seek_by : (P : ℕ → Type 0) → (length plain.lines ≤ line → P 10) → (1 < value → P 11) → (room < length plain.ties → P 14) → (work < length plain.lines → P 14) → (m : ℕ) → SeekWrong plain line value room work m → P m
  seek_by P absent other short few _ (SeekWrong.no_line h) = absent h
  seek_by P absent other short few _ (SeekWrong.no_bit h) = other h
  seek_by P absent other short few _ (SeekWrong.short_vector h) = short h
  seek_by P absent other short few _ (SeekWrong.few_work h) = few h

  pub seek_10 : length plain.lines ≤ line → Least (SeekWrong plain line value room work) 10
  seek_10 h = record { fits = SeekWrong.no_line h; least = seek_by (λ m. 10 ≤ m) (λ _. omega arith) (λ _. omega arith) (λ _. omega arith) (λ _. omega arith) }

  module _ (present : line < length plain.lines) where
    pub seek_11 : 1 < value → Least (SeekWrong plain line value room work) 11
    seek_11 h = record { fits = SeekWrong.no_bit h; least = seek_by (λ m. 11 ≤ m) (λ k. omega arith) (λ _. omega arith) (λ _. omega arith) (λ _. omega arith) }

    module _ (bit : value ≤ 1) where
      pub seek_14 : SeekWrong plain line value room work 14 → Least (SeekWrong plain line value room work) 14
      seek_14 h = record { fits = h; least = seek_by (λ m. 14 ≤ m) (λ k. omega arith) (λ k. omega arith) (λ _. omega arith) (λ _. omega arith) }

      pub seek_none : length plain.ties ≤ room → length plain.lines ≤ work → NothingWrong (SeekWrong plain line value room work)
      seek_none long enough = seek_by (λ _. ⊥) (λ k. omega arith) (λ k. omega arith) (λ k. omega arith) (λ k. omega arith)

module _ (plain : Plain) (line room work : ℕ) where
  worst_by : (P : ℕ → Type 0) → (length plain.lines ≤ line → P 10) → (room < length plain.ties → P 14) → (work < length plain.lines → P 14) → (m : ℕ) → WorstWrong plain line room work m → P m
  worst_by P absent short few _ (WorstWrong.no_line h) = absent h
  worst_by P absent short few _ (WorstWrong.short_vector h) = short h
  worst_by P absent short few _ (WorstWrong.few_work h) = few h

  pub worst_10 : length plain.lines ≤ line → Least (WorstWrong plain line room work) 10
  worst_10 h = record { fits = WorstWrong.no_line h; least = worst_by (λ m. 10 ≤ m) (λ _. omega arith) (λ _. omega arith) (λ _. omega arith) }

  module _ (present : line < length plain.lines) where
    pub worst_14 : WorstWrong plain line room work 14 → Least (WorstWrong plain line room work) 14
    worst_14 h = record { fits = h; least = worst_by (λ m. 14 ≤ m) (λ k. omega arith) (λ _. omega arith) (λ _. omega arith) }

    pub worst_none : length plain.ties ≤ room → length plain.lines ≤ work → NothingWrong (WorstWrong plain line room work)
    worst_none long enough = worst_by (λ _. ⊥) (λ k. omega arith) (λ k. omega arith) (λ k. omega arith)

module _ (plain : Plain) (vector : List ℕ) (values times : ℕ) where
  settle_by : (P : ℕ → Type 0) → ((length vector ≡ length plain.ties → ⊥) → P 11) → ((i : ℕ) → i < length vector → 1 < get_or vector i 0 → P 11)
      → ((i : ℕ) (b : Bool) → get_or plain.ties i None ≡ Some b → (get_or vector i 0 ≡ byte b → ⊥) → P 12) → (values < length plain.lines → P 14) → (times < length plain.lines → P 14) → (m : ℕ) → SettleWrong plain vector values times m → P m
  settle_by P uneven other against short few _ (SettleWrong.not_as_long h) = uneven h
  settle_by P uneven other against short few _ (SettleWrong.no_bit i h k) = other i h k
  settle_by P uneven other against short few _ (SettleWrong.against_tie i b h k) = against i b h k
  settle_by P uneven other against short few _ (SettleWrong.few_values h) = short h
  settle_by P uneven other against short few _ (SettleWrong.few_times h) = few h

  pub settle_11 : SettleWrong plain vector values times 11 → Least (SettleWrong plain vector values times) 11
  settle_11 h = record { fits = h; least = settle_by (λ m. 11 ≤ m) (λ _. omega arith) (λ _ _ _. omega arith) (λ _ _ _ _. omega arith) (λ _. omega arith) (λ _. omega arith) }

  module _ (long : length vector ≡ length plain.ties) (all : (i : ℕ) → i < length vector → get_or vector i 0 ≤ 1) where
    pub settle_12 : SettleWrong plain vector values times 12 → Least (SettleWrong plain vector values times) 12
    settle_12 h = record { fits = h; least = settle_by (λ m. 12 ≤ m) (λ k. absurd (k long)) (λ i k one. omega (arith, all i k)) (λ _ _ _ _. omega arith) (λ _. omega arith) (λ _. omega arith) }

    module _ (agree : (i : ℕ) (b : Bool) → get_or plain.ties i None ≡ Some b → get_or vector i 0 ≡ byte b) where
      pub settle_14 : SettleWrong plain vector values times 14 → Least (SettleWrong plain vector values times) 14
      settle_14 h = record { fits = h; least = settle_by (λ m. 14 ≤ m) (λ k. absurd (k long)) (λ i k one. omega (arith, all i k)) (λ i b k other. absurd (other (agree i b k))) (λ _. omega arith) (λ _. omega arith) }

      pub settle_none : length plain.lines ≤ values → length plain.lines ≤ times → NothingWrong (SettleWrong plain vector values times)
      settle_none enough room = settle_by (λ _. ⊥) (λ k. k long) (λ i k one. omega (arith, all i k)) (λ i b k other. other (agree i b k)) (λ k. omega arith) (λ k. omega arith)
