-- What was read has just these bytes: procedures, files and nodes, by their numbers.
use Rattle.std.proofs.Common.{◌≡◌, ℕ, ◌==◌, Bool, true, false, cond, List, [], ◌∷◌, ◌++◌, Result, Ok, Err, refl, sym, subst, if◌then◌else◌}
use Rattle.std.proofs.lemmas.Bool.{eqb-true}
use Rattle.prof_bytes.specs.Number.{IsBytes, word, words}
use Rattle.prof_bytes.specs.Outcome.{◌>>=◌}
use Rattle.prof_bytes.specs.Reading.{At}
use Rattle.prof_bytes.proofs.Took.{Behind, Took, behind, bytes_took, given, number_took, took_both}
use Rattle.prof_db.specs.declared.fault.DbFault.{DbFault}
use Rattle.prof_db.specs.declared.raw.RawFile.{RawFile}
use Rattle.prof_db.specs.declared.raw.RawLine.{RawLine}
use Rattle.prof_db.specs.declared.raw.RawLine.TheVariants.{Row, Address}
use Rattle.prof_db.specs.declared.raw.RawNode.{RawNode}
use Rattle.prof_db.specs.declared.raw.RawProc.{RawProc}
use Rattle.prof_db.specs.declared.raw.RawScope.{RawScope}
use Rattle.prof_db.specs.declared.raw.RawScope.TheVariants.{Root, Proc, Inline, Call, Stmt}
use Rattle.prof_db.specs.Fields.{DbRead, not_whole, word_field}
use Rattle.prof_db.specs.Layout.{stored_address_from, call_from, file_from, stored_frame_from, inline_from, line_from, node_from, proc_from, root_from, stored_row_from, scope_from, stmt_from, stored_text_from}
use Rattle.prof_db.specs.Spelling.{text_bytes}

-- ---- the numbers of what was read

abbrev pub raw_proc_bytes : RawProc → List ℕ
raw_proc_bytes p = words (p.kind ∷ p.number ∷ []) ++ text_bytes p.name

abbrev pub raw_file_bytes : RawFile → List ℕ
raw_file_bytes f = word f.table ++ word f.file ++ text_bytes f.name

abbrev pub raw_line_numbers : RawLine → List ℕ
raw_line_numbers (Row file line) = 0 ∷ file ∷ line ∷ []
raw_line_numbers (Address address) = 1 ∷ address ∷ []

abbrev pub raw_scope_numbers : RawScope → List ℕ
raw_scope_numbers (Root kind) = 0 ∷ kind ∷ []
raw_scope_numbers (Proc p) = 1 ∷ p ∷ []
raw_scope_numbers (Inline p line) = 2 ∷ p ∷ raw_line_numbers line
raw_scope_numbers (Call line) = 3 ∷ raw_line_numbers line
raw_scope_numbers (Stmt line) = 4 ∷ raw_line_numbers line

abbrev pub raw_node_bytes : RawNode → List ℕ
raw_node_bytes n = word n.parent ++ words (raw_scope_numbers n.scope)

-- ---- words and texts

-- a word, and what was read after it
pub word_behind : {Y : Type 0} (at : At) (rest : ℕ × At → Result Y DbFault) (y : Y) → IsBytes at.whole → (word_field at >>= rest) ≡ Ok y → Behind word at rest y
word_behind at rest y bytes is = behind word_field word (number_took not_whole 4) at rest y bytes is

text_back : (at next : At) (name : List ℕ) → IsBytes at.whole → stored_text_from at ≡ Ok (name, next) → Took at next (text_bytes name)
unfolding stored_text_from
text_back at next name bytes is =
    let a = word_behind at _ _ bytes is in
    let b = bytes_took not_whole a.value a.next next name a.is in
    took_both (subst (λ (n : ℕ). Took at a.next (word n)) (sym b.1) a.took) b.0

text_behind : {Y : Type 0} (at : At) (rest : List ℕ × At → Result Y DbFault) (y : Y) → IsBytes at.whole → (stored_text_from at >>= rest) ≡ Ok y → Behind text_bytes at rest y
text_behind at rest y bytes is = behind stored_text_from text_bytes text_back at rest y bytes is

-- ---- procedures and files

pub proc_back : (at next : At) (p : RawProc) → IsBytes at.whole → proc_from at ≡ Ok (p, next) → Took at next (raw_proc_bytes p)
unfolding proc_from
proc_back at next p bytes is =
    let a = word_behind at _ _ bytes is in
    let b = word_behind a.next _ _ a.bytes a.is in
    let c = text_behind b.next _ _ b.bytes b.is in
    given (λ p next. Took at next (raw_proc_bytes p)) _ p _ next c.is (took_both a.took (took_both b.took c.took))

pub file_back : (at next : At) (f : RawFile) → IsBytes at.whole → file_from at ≡ Ok (f, next) → Took at next (raw_file_bytes f)
unfolding file_from
file_back at next f bytes is =
    let a = word_behind at _ _ bytes is in
    let b = word_behind a.next _ _ a.bytes a.is in
    let c = text_behind b.next _ _ b.bytes b.is in
    given (λ f next. Took at next (raw_file_bytes f)) _ f _ next c.is (took_both a.took (took_both b.took c.took))

-- ---- numbers after a first one that tells their form

-- what a value's numbers are, of which the first is this tag
record Tagged {X : Type 0} (numbers : X → List ℕ) (at next : At) (x : X) (tag : ℕ) : Type 0 where
  rest : List ℕ
  is : numbers x ≡ tag ∷ rest
  took : Took at next (words rest)

module _ {X : Type 0} (numbers : X → List ℕ) (at mid next : At) (x : X) (tag : ℕ) (first : Took at mid (word tag)) where
  abbrev Whole : Type 0
  Whole = Took at next (words (numbers x))

  -- this form or one of the others, by its tag
  by_tag : (n : ℕ) (one other : DbRead X) → cond (tag == n) one other ≡ Ok (x, next) → (one ≡ Ok (x, next) → Tagged numbers mid next x n) → (other ≡ Ok (x, next) → Whole) → Whole
  by_tag n one other is own others = by_test (tag == n) refl is
    where
      by_test : (b : Bool) → (tag == n) ≡ b → cond b one other ≡ Ok (x, next) → Whole
      by_test true same read =
          let back = own read in
          subst (λ (ns : List ℕ). Took at next (words ns)) (sym back.is) (took_both (subst (λ (m : ℕ). Took at mid (word m)) (eqb-true tag n same) first) back.took)
      by_test false differs read = others read

  no_form : (fault : DbFault) → ◌≡◌ {A = DbRead X} (Err fault) (Ok (x, next)) → Whole
  no_form fault is = absurd cc

-- ---- lines

abbrev LineTagged : At → At → RawLine → ℕ → Type 0
LineTagged at next line tag = Tagged raw_line_numbers at next line tag

row_back : (at next : At) (line : RawLine) → IsBytes at.whole → stored_row_from at ≡ Ok (line, next) → LineTagged at next line 0
unfolding stored_row_from
row_back at next line bytes is =
    let a = word_behind at _ _ bytes is in
    let b = word_behind a.next _ _ a.bytes a.is in
    given (λ line next. LineTagged at next line 0) _ line _ next b.is (record { rest = a.value ∷ b.value ∷ []; is = refl; took = took_both a.took b.took })

address_back : (at next : At) (line : RawLine) → IsBytes at.whole → stored_address_from at ≡ Ok (line, next) → LineTagged at next line 1
unfolding stored_address_from
address_back at next line bytes is =
    let a = word_behind at _ _ bytes is in
    given (λ line next. LineTagged at next line 1) _ line _ next a.is (record { rest = a.value ∷ []; is = refl; took = a.took })

line_back : (at next : At) (line : RawLine) → IsBytes at.whole → line_from at ≡ Ok (line, next) → Took at next (words (raw_line_numbers line))
unfolding line_from
line_back at next line bytes is =
    let a = word_behind at _ _ bytes is in
    let mid : At = a.next in
    let kind : ℕ = a.value in
    by_tag raw_line_numbers at mid next line kind a.took 0 (stored_row_from mid) (if kind == 1 then stored_address_from mid else Err (not_whole at)) a.is (λ read. row_back mid next line a.bytes read)
    (λ more. by_tag raw_line_numbers at mid next line kind a.took 1 (stored_address_from mid) (Err (not_whole at)) more (λ read. address_back mid next line a.bytes read)
    (λ fails. no_form raw_line_numbers at mid next line kind a.took (not_whole at) fails))

line_behind : {Y : Type 0} (at : At) (rest : RawLine × At → Result Y DbFault) (y : Y) → IsBytes at.whole → (line_from at >>= rest) ≡ Ok y → Behind (λ line. words (raw_line_numbers line)) at rest y
line_behind at rest y bytes is = behind line_from (λ line. words (raw_line_numbers line)) line_back at rest y bytes is

-- ---- scopes

abbrev ScopeTagged : At → At → RawScope → ℕ → Type 0
ScopeTagged at next scope tag = Tagged raw_scope_numbers at next scope tag

root_back : (at next : At) (scope : RawScope) → IsBytes at.whole → root_from at ≡ Ok (scope, next) → ScopeTagged at next scope 0
unfolding root_from
root_back at next scope bytes is =
    let a = word_behind at _ _ bytes is in
    given (λ scope next. ScopeTagged at next scope 0) _ scope _ next a.is (record { rest = a.value ∷ []; is = refl; took = a.took })

frame_back : (at next : At) (scope : RawScope) → IsBytes at.whole → stored_frame_from at ≡ Ok (scope, next) → ScopeTagged at next scope 1
unfolding stored_frame_from
frame_back at next scope bytes is =
    let a = word_behind at _ _ bytes is in
    given (λ scope next. ScopeTagged at next scope 1) _ scope _ next a.is (record { rest = a.value ∷ []; is = refl; took = a.took })

inline_back : (at next : At) (scope : RawScope) → IsBytes at.whole → inline_from at ≡ Ok (scope, next) → ScopeTagged at next scope 2
unfolding inline_from
inline_back at next scope bytes is =
    let a = word_behind at _ _ bytes is in
    let b = line_behind a.next _ _ a.bytes a.is in
    given (λ scope next. ScopeTagged at next scope 2) _ scope _ next b.is (record { rest = a.value ∷ raw_line_numbers b.value; is = refl; took = took_both a.took b.took })

call_back : (at next : At) (scope : RawScope) → IsBytes at.whole → call_from at ≡ Ok (scope, next) → ScopeTagged at next scope 3
unfolding call_from
call_back at next scope bytes is =
    let a = line_behind at _ _ bytes is in
    given (λ scope next. ScopeTagged at next scope 3) _ scope _ next a.is (record { rest = raw_line_numbers a.value; is = refl; took = a.took })

stmt_back : (at next : At) (scope : RawScope) → IsBytes at.whole → stmt_from at ≡ Ok (scope, next) → ScopeTagged at next scope 4
unfolding stmt_from
stmt_back at next scope bytes is =
    let a = line_behind at _ _ bytes is in
    given (λ scope next. ScopeTagged at next scope 4) _ scope _ next a.is (record { rest = raw_line_numbers a.value; is = refl; took = a.took })

scope_back : (at next : At) (scope : RawScope) → IsBytes at.whole → scope_from at ≡ Ok (scope, next) → Took at next (words (raw_scope_numbers scope))
unfolding scope_from
scope_back at next scope bytes is =
    let a = word_behind at _ _ bytes is in
    let mid : At = a.next in
    let by = by_tag raw_scope_numbers at mid next scope a.value a.took in
    by 0 (root_from mid) _ a.is (λ read. root_back mid next scope a.bytes read)
    (λ m1. by 1 (stored_frame_from mid) _ m1 (λ read. frame_back mid next scope a.bytes read)
    (λ m2. by 2 (inline_from mid) _ m2 (λ read. inline_back mid next scope a.bytes read)
    (λ m3. by 3 (call_from mid) _ m3 (λ read. call_back mid next scope a.bytes read)
    (λ m4. by 4 (stmt_from mid) _ m4 (λ read. stmt_back mid next scope a.bytes read)
    (λ m5. no_form raw_scope_numbers at mid next scope a.value a.took (not_whole at) m5)))))

-- ---- nodes

pub node_back : (at next : At) (n : RawNode) → IsBytes at.whole → node_from at ≡ Ok (n, next) → Took at next (raw_node_bytes n)
unfolding node_from
node_back at next n bytes is =
    let a = word_behind at _ _ bytes is in
    let b = behind scope_from (λ scope. words (raw_scope_numbers scope)) scope_back a.next _ _ a.bytes a.is in
    given (λ n next. Took at next (raw_node_bytes n)) _ n _ next b.is (took_both a.took b.took)
