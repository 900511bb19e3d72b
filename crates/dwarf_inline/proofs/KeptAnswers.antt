-- Answers that are kept.
use Rattle.std.proofs.Common.{◌≡◌, ◌==◌, ℕ, Bool, true, false, Some, refl, sym, ◌∙◌, subst}
use Rattle.std.specs.Prelude.{if◌then◌else◌}
use Rattle.std.specs.Ordering.{nat_cmp}
use Rattle.std.specs.BTreeMap.{BTreeMap, get}
use Rattle.std.proofs.lemmas.Bool.{eqb-true}
use Rattle.std.proofs.lemmas.Option.{same_Some}
use Rattle.dwarf_info.specs.Units.{DebugInfo}
use Rattle.dwarf_inline.specs.declared.long_entries.Answer.{Answer}
use Rattle.dwarf_inline.specs.private.Answers.{IsAnswer, AreAnswers}

-- one answer more
pub one_kept : (info : DebugInfo) (old new : BTreeMap ℕ Answer) (i : ℕ) (answer : Answer)
    → ((q : ℕ) → get nat_cmp new q ≡ (if i == q then Some answer else get nat_cmp old q))
    → AreAnswers info old → IsAnswer info i answer → AreAnswers info new
one_kept info old new i answer put were is = λ q a e. kept q a (i == q) refl (sym (put q) ∙ e)
  where
    kept : (q : ℕ) (a : Answer) (b : Bool) → (i == q) ≡ b → (if b then Some answer else get nat_cmp old q) ≡ Some a → IsAnswer info q a
    kept q a true at e = subst (λ (n : ℕ). IsAnswer info n a) (eqb-true i q at) (subst (IsAnswer info i) (same_Some answer a e) is)
    kept q a false at e = were q a e

-- the same of other debug information that is the same
pub answers_of : (info own : DebugInfo) (answers : BTreeMap ℕ Answer) → own ≡ info → AreAnswers info answers → AreAnswers own answers
answers_of info own answers same are = subst (λ (d : DebugInfo). AreAnswers d answers) (sym same) are

-- what is kept at an entry's index
pub asked : (info : DebugInfo) (answers : BTreeMap ℕ Answer) (i j : ℕ) (answer : Answer) → i ≡ j → get nat_cmp answers i ≡ Some answer
    → AreAnswers info answers → IsAnswer info j answer
asked info answers i j answer same at are = subst (λ (n : ℕ). IsAnswer info n answer) same (are i answer at)

-- the same answer
pub same_answer : (info : DebugInfo) (i : ℕ) (answer copy : Answer) → copy ≡ answer → IsAnswer info i answer → IsAnswer info i copy
same_answer info i answer copy same is = subst (IsAnswer info i) (sym same) is
