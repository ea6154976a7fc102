-- A text has one verdict at most. Assumes nothing.
use Rattle.std.proofs.Common.{sym, refl, ap, ◌∙◌, subst, arith}
use Rattle.sheets.specs.Sheet.{TooDeep}
use Rattle.sheets.specs.Verdicts.{Verdict, Judged, OneVerdict}
use Rattle.sheets.proofs.Verdict.{broken_not_sheet, broken_one, deep_one, not_both, deep_not_shallow}
use Rattle.sheets.proofs.Unique.{forms_unique}

pub one_verdict : OneVerdict
one_verdict text a b (Judged.is_too_long l1) (Judged.is_too_long l2) = refl
one_verdict text a b (Judged.is_too_long l1) (Judged.is_broken l2 p2 b2) = absurd (omega arith)
one_verdict text a b (Judged.is_too_long l1) (Judged.is_too_deep l2 p2 b2) = absurd (omega arith)
one_verdict text a b (Judged.is_too_long l1) (Judged.is_sheet l2 f2 w2 d2 t2) = absurd (omega arith)
one_verdict text a b (Judged.is_broken l1 p1 b1) (Judged.is_too_long l2) = absurd (omega arith)
one_verdict text a b (Judged.is_broken l1 p1 b1) (Judged.is_broken l2 p2 b2) = ap Verdict.broken (broken_one text p1 p2 b1 b2)
one_verdict text a b (Judged.is_broken l1 p1 b1) (Judged.is_too_deep l2 p2 b2) = absurd (not_both text p1 p2 b1 b2)
one_verdict text a b (Judged.is_broken l1 p1 b1) (Judged.is_sheet l2 f2 w2 d2 t2) = absurd (broken_not_sheet text p1 b1 (f2, w2, t2))
one_verdict text a b (Judged.is_too_deep l1 p1 b1) (Judged.is_too_long l2) = absurd (omega arith)
one_verdict text a b (Judged.is_too_deep l1 p1 b1) (Judged.is_broken l2 p2 b2) = absurd (not_both text p2 p1 b2 b1)
one_verdict text a b (Judged.is_too_deep l1 p1 b1) (Judged.is_too_deep l2 p2 b2) = ap Verdict.too_deep (deep_one text p1 p2 b1 b2)
one_verdict text a b (Judged.is_too_deep l1 p1 b1) (Judged.is_sheet l2 f2 w2 d2 t2) = absurd (deep_not_shallow f2 p1 w2 d2 (subst (λ t. TooDeep t p1) (sym t2) b1))
one_verdict text a b (Judged.is_sheet l1 f1 w1 d1 t1) (Judged.is_too_long l2) = absurd (omega arith)
one_verdict text a b (Judged.is_sheet l1 f1 w1 d1 t1) (Judged.is_broken l2 p2 b2) = absurd (broken_not_sheet text p2 b2 (f1, w1, t1))
one_verdict text a b (Judged.is_sheet l1 f1 w1 d1 t1) (Judged.is_too_deep l2 p2 b2) = absurd (deep_not_shallow f1 p2 w1 d1 (subst (λ t. TooDeep t p2) (sym t1) b2))
one_verdict text a b (Judged.is_sheet l1 f1 w1 d1 t1) (Judged.is_sheet l2 f2 w2 d2 t2) = ap Verdict.sheet (forms_unique f1 f2 w1 w2 (t1 ∙ sym t2))
