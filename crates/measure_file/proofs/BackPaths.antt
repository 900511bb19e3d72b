-- What was read has just these bytes: paths and columns.
use Rattle.std.proofs.Common.{◌≡◌, ℕ, zero, suc, ◌+◌, ◌≤◌, false, List, [], ◌∷◌, ◌++◌, length, replicate, All, Ok, refl, sym, ap, subst, ◌∙◌, append_assoc, append-nil, arith}
use Rattle.std.specs.List.{flat_map}
use Rattle.std.proofs.lemmas.List.{length-append}
use Rattle.prof_bytes.specs.Number.{IsBytes, word}
use Rattle.prof_bytes.specs.Reading.{At}
use Rattle.scope_types.specs.declared.frame.Counted.{Counted}
use Rattle.scope_types.specs.declared.frame.Frame.{Frame}
use Rattle.scope_types.specs.Distinct.{frames_in, samples_in}
use Rattle.thread_cct.specs.Adding.{has_path, of_column, with_path}
use Rattle.prof_bytes.specs.Repeated.{adding, times}
use Rattle.measure_file.specs.Fields.{fault_at}
use Rattle.measure_file.specs.Measurable.{AreMeasured, HasWord, IsCounted}
use Rattle.measure_file.specs.Reading.{measured_frame_from, column_from, is_count, is_end_number, is_length, new_path, measured_path_from}
use Rattle.scope_types.specs.Ends.{end_number, end_of_number}
use Rattle.measure_file.specs.Spelling.{frame_bytes, path_bytes, column_bytes}
use Rattle.prof_bytes.proofs.Outcomes.{bind_ok, guard_ok, ok_same}
use Rattle.prof_bytes.proofs.Took.{Took, bytes_on, given, took_both, took_none}
use Rattle.measure_file.proofs.Back.{count_rule, end_again, frames_back, length_rule, ruled_behind, word_behind}
use Rattle.measure_file.proofs.Seams.{Tables, own_of, own_put, measured_more}

-- a path that was put after those of its column
pub record PathBack (done rest : Tables) (own : List Counted) (new : Tables) (at next : At) (c : Counted) : Type 0 where
  pub is : new ≡ done ++ (own ++ c ∷ []) ∷ rest
  pub measured : AreMeasured (done ++ (own ++ c ∷ []) ∷ rest)
  pub took : Took at next (path_bytes c)

path_back : (done rest : Tables) (own : List Counted) (at next : At) (new : Tables) → IsBytes at.whole → AreMeasured (done ++ own ∷ rest) → measured_path_from (length done) (done ++ own ∷ rest) at ≡ Ok (new, next)
    → (c : Counted) × PathBack done rest own new at next c
unfolding measured_path_from
path_back done rest own at next new bytes are is =
    let tables : Tables = done ++ own ∷ rest in
    let column : ℕ = length done in
    let a = ruled_behind (is_count (samples_in tables)) at _ _ bytes is in
    let b = ruled_behind is_end_number a.next _ _ a.bytes a.is in
    let d = ruled_behind (is_length (frames_in tables)) b.next _ _ b.bytes b.is in
    let f = bind_ok (times (adding measured_frame_from) d.value 0 [] d.next) _ _ d.is in
    let frames : List Frame = f.0.0 in
    let read = frames_back d.value frames d.next f.0.1 d.bytes f.1 in
    let c : Counted = record { path = record { end = end_of_number b.value; frames = frames }; count = a.value } in
    let p = bind_ok (new_path column d.next.offset c tables) _ _ f.2 in
    let g = guard_ok (has_path c.path (of_column tables column)) (fault_at d.next.offset) (Ok (with_path tables column c)) p.0 p.1 in
    let own_new : has_path c.path own ≡ false = subst (λ (cs : List Counted). has_path c.path cs ≡ false) (own_of done rest own) g.0 in
    let long : length frames ≡ d.value = ap (λ (fs : List Frame). length fs) read.is ∙ read.many in
    let counts = count_rule (samples_in tables) a.value a.passes in
    let lengths = length_rule (frames_in tables) d.value d.passes in
    let counted : IsCounted c = record {
      count = counts.0;
      frames = record { some = (let l = lengths.0 in omega (arith, l, long)); few = (let l = lengths.1 in omega (arith, l, long)) };
      addresses = subst (All HasWord) (sym read.is) read.fit;
    } in
    let short : frames_in tables + length frames ≤ 4194304 = (let l = lengths.2 in omega (arith, l, long)) in
    let end_took : Took a.next b.next (word (end_number c.path.end)) = subst (λ (n : ℕ). Took a.next b.next (word n)) (sym (end_again b.value b.passes)) b.took in
    let length_took : Took b.next d.next (word (length frames)) = subst (λ (n : ℕ). Took b.next d.next (word n)) (sym long) d.took in
    let frames_took : Took d.next f.0.1 (flat_map frame_bytes frames) = subst (λ (fs : List Frame). Took d.next f.0.1 (flat_map frame_bytes fs)) (sym read.is) read.took in (
      c,
      given (λ new next. PathBack done rest own new at next c) p.0 new f.0.1 next p.2 (record {
        is = sym (ok_same (with_path tables column c) p.0 g.1) ∙ own_put done rest own c;
        measured = measured_more done rest own c are counted own_new counts.1 short;
        took = took_both a.took (took_both end_took (took_both length_took frames_took));
      }),
    )

-- paths that were put after those of their column
pub record PathsBack (done rest : Tables) (own : List Counted) (n : ℕ) (new : Tables) (at next : At) (cs : List Counted) : Type 0 where
  pub is : new ≡ done ++ (own ++ cs) ∷ rest
  pub many : length cs ≡ n
  pub measured : AreMeasured (done ++ (own ++ cs) ∷ rest)
  pub took : Took at next (flat_map path_bytes cs)

paths_back : (n i : ℕ) (done rest : Tables) (own : List Counted) (at next : At) (new : Tables) → IsBytes at.whole → AreMeasured (done ++ own ∷ rest)
    → times (λ i. measured_path_from (length done)) n i (done ++ own ∷ rest) at ≡ Ok (new, next) → (cs : List Counted) × PathsBack done rest own n new at next cs
unfolding times
paths_back zero i done rest own at next new bytes are is =
    let none : own ≡ own ++ [] = sym (append-nil own) in (
      [],
      given (λ new next. PathsBack done rest own 0 new at next []) (done ++ own ∷ rest) new at next is (record {
        is = ap (λ (cs : List Counted). done ++ cs ∷ rest) none;
        many = refl;
        measured = subst (λ (cs : List Counted). AreMeasured (done ++ cs ∷ rest)) none are;
        took = took_none at;
      }),
    )
paths_back (suc n) i done rest own at next new bytes are is =
    let one = bind_ok (measured_path_from (length done) (done ++ own ∷ rest) at) _ _ is in
    let mid : Tables × At = one.0 in
    let first = path_back done rest own at mid.1 mid.0 bytes are one.1 in
    let c : Counted = first.0 in
    let more = paths_back n (i + 1) done rest (own ++ c ∷ []) mid.1 next new (bytes_on first.1.took bytes) first.1.measured
    (subst (λ (t : Tables). times (λ i. measured_path_from (length done)) n (i + 1) t mid.1 ≡ Ok (new, next)) first.1.is one.2) in
    let cs : List Counted = more.0 in
    let joined : (own ++ c ∷ []) ++ cs ≡ own ++ c ∷ cs = append_assoc own (c ∷ []) cs in
    let long = more.1.many in (
      c ∷ cs,
      record {
        is = more.1.is ∙ ap (λ (l : List Counted). done ++ l ∷ rest) joined;
        many = omega (arith, long);
        measured = subst (λ (l : List Counted). AreMeasured (done ++ l ∷ rest)) joined more.1.measured;
        took = took_both first.1.took more.1.took;
      },
    )

-- the paths of columns
pub record ColumnsBack (done : Tables) (n : ℕ) (new : Tables) (at next : At) (more : Tables) : Type 0 where
  pub is : new ≡ done ++ more
  pub many : length more ≡ n
  pub measured : AreMeasured (done ++ more)
  pub took : Took at next (flat_map column_bytes more)

column_back : (done rest : Tables) (at next : At) (new : Tables) → IsBytes at.whole → AreMeasured (done ++ [] ∷ rest) → column_from (length done) (done ++ [] ∷ rest) at ≡ Ok (new, next)
    → (cs : List Counted) × (new ≡ done ++ cs ∷ rest) × AreMeasured (done ++ cs ∷ rest) × Took at next (column_bytes cs)
unfolding column_from
column_back done rest at next new bytes are is =
    let a = word_behind at _ _ bytes is in
    let paths = paths_back a.value 0 done rest [] a.next next new a.bytes are a.is in
    let counted : Took at a.next (word (length paths.0)) = subst (λ (n : ℕ). Took at a.next (word n)) (sym paths.1.many) a.took in
    (paths.0, paths.1.is, paths.1.measured, took_both counted paths.1.took)

pub columns_back : (n : ℕ) (done : Tables) (at next : At) (new : Tables) → IsBytes at.whole → AreMeasured (done ++ replicate n []) → times column_from n (length done) (done ++ replicate n []) at ≡ Ok (new, next)
    → (more : Tables) × ColumnsBack done n new at next more
unfolding times
columns_back zero done at next new bytes are is =
    ([], given (λ new next. ColumnsBack done 0 new at next []) (done ++ []) new at next is (record { is = refl; many = refl; measured = are; took = took_none at }))
columns_back (suc n) done at next new bytes are is =
    let rest : Tables = replicate n [] in
    let one = bind_ok (column_from (length done) (done ++ [] ∷ rest) at) _ _ is in
    let mid : Tables × At = one.0 in
    let first = column_back done rest at mid.1 mid.0 bytes are one.1 in
    let cs : List Counted = first.0 in
    let seam : done ++ cs ∷ rest ≡ (done ++ cs ∷ []) ++ rest = sym (append_assoc done (cs ∷ []) rest) in
    let later : length done + 1 ≡ length (done ++ cs ∷ []) = (let parts = length-append done (cs ∷ []) in omega (arith, parts)) in
    let reads : times column_from n (length (done ++ cs ∷ [])) ((done ++ cs ∷ []) ++ rest) mid.1 ≡ Ok (new, next) =
    subst (λ (k : ℕ). times column_from n k ((done ++ cs ∷ []) ++ rest) mid.1 ≡ Ok (new, next)) later (subst (λ (t : Tables). times column_from n (length done + 1) t mid.1 ≡ Ok (new, next)) (first.1 ∙ seam) one.2) in
    let more = columns_back n (done ++ cs ∷ []) mid.1 next new (bytes_on first.3 bytes) (subst AreMeasured seam first.2) reads in
    let others : Tables = more.0 in
    let joined : (done ++ cs ∷ []) ++ others ≡ done ++ cs ∷ others = append_assoc done (cs ∷ []) others in
    let long = more.1.many in (
      cs ∷ others,
      record {
        is = more.1.is ∙ joined;
        many = omega (arith, long);
        measured = subst AreMeasured joined more.1.measured;
        took = took_both first.3 more.1.took;
      },
    )
