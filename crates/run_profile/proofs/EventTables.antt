-- The tables of a content's events are those of the events' paths.
use Rattle.std.proofs.Common.{◌≡◌, ℕ, suc, ◌+◌, ◌<◌, ◌≤◌, List, [], ◌∷◌, ◌++◌, length, get_or, map, slice_get, take, take_all, Some, refl, sym, ap, ap₂, ◌∙◌, append-nil, append_assoc, arith}
use Rattle.std.specs.List.{enumerate_from, flat_map}
use Rattle.std.proofs.lemmas.List.{take_more}
use Rattle.std.proofs.lemmas.List.Concat.{flat_map-append}
use Rattle.std.proofs.lemmas.List.FromFn.{get_or-enumerate_from, length-enumerate_from}
use Rattle.scope_types.specs.declared.event.EventPeriod.{EventPeriod}
use Rattle.scope_types.specs.CallPaths.{ColumnPath}
use Rattle.tree_types.specs.declared.content.EventContent.{EventContent}
use Rattle.tree_types.specs.OfContent.{content_of_event, content_table}
use Rattle.run_report.specs.Report.{line_of_event}
use Rattle.run_profile.specs.Attribution.{Attributed, event_tables, table_of_event}
use Rattle.run_profile.specs.EventTexts.{line_and_table, lines_of_events, tables_in}
use Rattle.run_profile.specs.Merging.{HasTables}

-- what is put after a start, and more of it
one_more : (so_far last whole start before after : List ℕ) → before ≡ start ++ so_far → after ≡ before ++ last → whole ≡ so_far ++ last → after ≡ start ++ whole
one_more so_far last whole start before after was more is =
    more ∙ ap (λ (l : List ℕ). l ++ last) was ∙ append_assoc start so_far last ∙ ap (λ (l : List ℕ). start ++ l) (sym is)

-- one line more, with its table
pub tables_more : (c : EventContent) (lines : List (List ℕ)) (place : ℕ) (line : List ℕ) (start before after : List ℕ) → place < length lines → line ≡ get_or lines place line → before ≡ start ++ flat_map (line_and_table c) (take place (enumerate_from 0 lines))
    → after ≡ before ++ line ++ content_table (content_of_event c place) → after ≡ start ++ flat_map (line_and_table c) (take (place + 1) (enumerate_from 0 lines))
tables_more c lines place line start before after within is so_far more =
    let long = length-enumerate_from 0 lines in
    let here : 0 + place ≡ place = omega arith in
    let got : get_or (enumerate_from 0 lines) place (0, line) ≡ (place, line) = get_or-enumerate_from 0 lines place (0, line) within ∙ (λ i. (here i, sym is i)) in
    let taken : take (place + 1) (enumerate_from 0 lines) ≡ take place (enumerate_from 0 lines) ++ (place, line) ∷ [] = take_more (enumerate_from 0 lines) place (0, line) (omega (arith, long, within)) ∙ ap (λ (p : ℕ × List ℕ). take place (enumerate_from 0 lines) ++ p ∷ []) got in
    one_more (flat_map (line_and_table c) (take place (enumerate_from 0 lines))) (line ++ content_table (content_of_event c place)) (flat_map (line_and_table c) (take (place + 1) (enumerate_from 0 lines))) start before after so_far (more ∙ append_assoc before line (content_table (content_of_event c place)))
    (ap (flat_map (line_and_table c)) taken ∙ flat_map-append (line_and_table c) (take place (enumerate_from 0 lines)) ((place, line) ∷ [])
    ∙ ap (λ (l : List ℕ). flat_map (line_and_table c) (take place (enumerate_from 0 lines)) ++ l) (append-nil (line ++ content_table (content_of_event c place))))

pub tables_all : (c : EventContent) (lines : List (List ℕ)) (place : ℕ) (start whole : List ℕ) → length lines ≤ place → whole ≡ start ++ flat_map (line_and_table c) (take place (enumerate_from 0 lines)) → whole ≡ start ++ tables_in lines c
tables_all c lines place start whole past so_far =
    let long = length-enumerate_from 0 lines in
    so_far ∙ ap (λ (xs : List (ℕ × List ℕ)). start ++ flat_map (line_and_table c) xs) (take_all place (enumerate_from 0 lines) (omega (arith, long, past)))

-- events that come from a place of the list on: a line, and a table by place
each_table : (line : ℕ × EventPeriod → List ℕ) (by_place : ℕ → List ℕ) (by_event : ℕ × EventPeriod → List ℕ) (first : ℕ) (events : List EventPeriod)
    → ((k : ℕ) (event : EventPeriod) → slice_get events k ≡ Some event → by_place (first + k) ≡ by_event (first + k, event))
    → flat_map (λ numbered. numbered.1 ++ by_place numbered.0) (enumerate_from first (map line (enumerate_from first events)))
    ≡ flat_map (λ numbered. line numbered ++ by_event numbered) (enumerate_from first events)
each_table line by_place by_event first [] same = refl
each_table line by_place by_event first (event ∷ events) same =
    let here : first + 0 ≡ first = omega arith in
    let table : by_place first ≡ by_event (first, event) = ap by_place (sym here) ∙ same 0 event refl ∙ ap (λ (n : ℕ). by_event (n, event)) here in
    let rest = each_table line by_place by_event (first + 1) events (λ k other is.
    let there : first + 1 + k ≡ first + suc k = omega arith in
    ap by_place there ∙ same (suc k) other is ∙ ap (λ (n : ℕ). by_event (n, other)) (sym there)) in
    ap₂ (λ (table rest : List ℕ). (line (first, event) ++ table) ++ rest) table rest

pub tables_are : (a : Attributed) (paths : List ColumnPath) (c : EventContent) → HasTables c a paths → tables_in (lines_of_events a.events a.samples) c ≡ event_tables a paths
tables_are a paths c has =
    each_table (line_of_event a.events a.samples) (λ place. content_table (content_of_event c place)) (table_of_event a paths) 0 a.events
    (λ k event is. (let here : 0 + k ≡ k = omega arith in ap (λ (n : ℕ). content_table (content_of_event c n)) here ∙ has k event is ∙ ap (λ (n : ℕ). table_of_event a paths (n, event)) (sym here)))
