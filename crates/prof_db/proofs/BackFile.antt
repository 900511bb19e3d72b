-- What was read has just these bytes: the whole file.
use Rattle.std.proofs.Common.{◌≡◌, ℕ, ◌≤◌, nat_lt, true, List, [], ◌∷◌, ◌++◌, length, All, Ok, refl, sym, ap, subst, ◌∙◌, append_assoc, append-nil, arith}
use Rattle.std.specs.List.{flat_map}
use Rattle.std.proofs.lemmas.Bool.{ltb-false}
use Rattle.std.proofs.lemmas.List.{length-map, nil_from_length}
use Rattle.prof_bytes.specs.Number.{IsBytes, words}
use Rattle.prof_bytes.specs.Reading.{At, left_of}
use Rattle.scope_types.specs.Columns.{columns_of}
use Rattle.tree_types.specs.declared.content.EventContent.{EventContent}
use Rattle.tree_types.specs.declared.content.Names.{Names}
use Rattle.prof_db.specs.declared.raw.Head.{Head}
use Rattle.prof_db.specs.declared.raw.Layout.{Layout}
use Rattle.prof_bytes.specs.Repeated.{adding, times}
use Rattle.prof_db.specs.declared.raw.Version.{Version}
use Rattle.prof_db.specs.Fields.{not_whole}
use Rattle.prof_db.specs.Layout.{after_magic, body_from, list_from, file_from, node_from, past_list, proc_from}
use Rattle.prof_db.specs.NameRules.{file_name, names_in, raw_proc_name, used_files, used_procs}
use Rattle.prof_db.specs.NodeRules.{in_range, node_of}
use Rattle.prof_db.specs.Rules.{events_in}
use Rattle.prof_db.specs.Spelling.{database_magic, context_entry_bytes, head_numbers, node_bytes, profile_entry_bytes, events_spelling, shared_bytes, version_of, with_count}
use Rattle.prof_db.specs.ValueRules.{context_fields, plane_fields, profile_fields}
use Rattle.prof_bytes.proofs.Lists.{list_took}
use Rattle.prof_bytes.proofs.Took.{Took, bytes_on, took_both}
use Rattle.prof_db.proofs.BackItems.{file_back, node_back, proc_back, raw_file_bytes, raw_node_bytes, raw_proc_bytes}
use Rattle.prof_db.proofs.BackNames.{files_spelled, nodes_spelled, procs_spelled}
use Rattle.prof_db.proofs.BackPlanes.{list_moved, lists_end, context_bytes, field_bytes, fields_took, past_list_moved, profile_bytes}
use Rattle.prof_db.proofs.Contents.{contexts_long, profiles_long}
use Rattle.prof_db.proofs.Headed.{IsHeaded, IsRead, head_took, made_of, raw_counts, raw_head_bytes, raw_head_numbers, read}
use Rattle.prof_db.proofs.Heads.{not_elsewhere, numbers_few, runs_right}
use Rattle.prof_db.proofs.Versions.{numbers_of, version_again, version_took}
use Rattle.prof_bytes.proofs.Outcomes.{bind_ok, guard_ok, ok_same}
use Rattle.prof_db.proofs.Owned.{ranged}
use Rattle.prof_db.proofs.OwnNames.{files_up, procs_up}
use Rattle.prof_db.proofs.Passed.{Passed, own_content, own_nodes, passed}

-- ---- the lists, and the planes

abbrev lists_bytes : Layout → List ℕ
lists_bytes layout = flat_map raw_proc_bytes layout.procs ++ (flat_map raw_file_bytes layout.files ++ flat_map raw_node_bytes layout.nodes)

record BodyBack (head : Head) (at : At) (layout : Layout) : Type 0 where
  events : layout.events ≡ head.events
  runs : layout.runs ≡ head.runs
  procs : length layout.procs ≡ head.procs
  files : length layout.files ≡ head.files
  nodes : length layout.nodes ≡ head.nodes
  took : Took at layout.profiles (lists_bytes layout)
  lists : times list_from (columns_of (length head.events) head.runs) 0 [] layout.profiles ≡ Ok (layout.entries, layout.contexts)
  behind_all : At
  past : times past_list head.nodes 0 tt layout.contexts ≡ Ok (tt, behind_all)
  none : left_of behind_all ≡ []

body_back : (head : Head) (at : At) (layout : Layout) → IsBytes at.whole → body_from head at ≡ Ok layout → BodyBack head at layout
unfolding body_from
body_back head at layout bytes is =
    let a = bind_ok (times (adding proc_from) head.procs 0 [] at) _ _ is in
    let procs = list_took proc_from raw_proc_bytes proc_back head.procs a.0.0 at a.0.1 bytes a.1 in
    let bytes1 = bytes_on procs.1 bytes in
    let b = bind_ok (times (adding file_from) head.files 0 [] a.0.1) _ _ a.2 in
    let files = list_took file_from raw_file_bytes file_back head.files b.0.0 a.0.1 b.0.1 bytes1 b.1 in
    let bytes2 = bytes_on files.1 bytes1 in
    let c = bind_ok (times (adding node_from) head.nodes 0 [] b.0.1) _ _ b.2 in
    let nodes = list_took node_from raw_node_bytes node_back head.nodes c.0.0 b.0.1 c.0.1 bytes2 c.1 in
    let d = bind_ok (times list_from (columns_of (length head.events) head.runs) 0 [] c.0.1) _ _ c.2 in
    let made : Layout = made_of head a.0.0 b.0.0 c.0.0 d.0.0 c.0.1 d.0.1 in
    let e = bind_ok (times past_list head.nodes 0 tt d.0.1) _ _ d.2 in
    let whole = guard_ok (nat_lt 0 (length (left_of e.0.1))) (not_whole e.0.1) (Ok made) layout e.2 in
    let short : length (left_of e.0.1) ≤ 0 = ltb-false 0 (length (left_of e.0.1)) whole.0 in
    let back : BodyBack head at made = record {
      events = refl;
      runs = refl;
      procs = procs.0;
      files = files.0;
      nodes = nodes.0;
      took = took_both procs.1 (took_both files.1 nodes.1);
      lists = d.1;
      behind_all = e.0.1;
      past = e.1;
      none = nil_from_length (left_of e.0.1) (omega (arith, short));
    } in
    subst (BodyBack head at) (ok_same made layout whole.1) back

-- ---- the whole file

seams : (m w k p f n a b : List ℕ) → m ++ ((w ++ k) ++ ((p ++ (f ++ n)) ++ (a ++ (b ++ [])))) ≡ (m ++ w) ++ (k ++ p ++ f ++ n ++ a ++ b)
seams m w k p f n a b = simp (append_assoc, append-nil)

module _ (layout : Layout) (c : EventContent) (p : Passed layout c) (version : Version) (headed : IsHeaded version layout.version layout.events layout.runs)
    (head : Head) (at : At) (bytes : IsBytes at.whole) (back : BodyBack head at layout) where
  abbrev names : Names
  names = names_in layout

  abbrev own : EventContent
  own = own_content layout

  profiles_end : p.behind_profiles ≡ layout.contexts
  profiles_end =
      lists_end 6 profile_fields (λ e. refl) list_from (λ column b a at next read. list_moved column b a at next read) own.profiles (columns_of (length head.events) head.runs) 0 [] layout.entries layout.profiles layout.contexts p.behind_profiles
      (profiles_long layout names (own_nodes layout) own refl ∙ (λ i. columns_of (length (back.events i)) (back.runs i))) back.lists p.profiles

  contexts_end : p.behind_contexts ≡ back.behind_all
  contexts_end =
      lists_end 7 context_fields (λ e. refl) past_list past_list_moved own.contexts head.nodes 0 tt tt layout.contexts back.behind_all p.behind_contexts
      (contexts_long layout names (own_nodes layout) own refl ∙ length-map layout.nodes (node_of names) ∙ back.nodes) back.past p.contexts

  abbrev profile_plane : List ℕ
  profile_plane = flat_map (with_count profile_entry_bytes) own.profiles

  abbrev context_plane : List ℕ
  context_plane = flat_map (with_count context_entry_bytes) own.contexts

  bytes_there : IsBytes layout.profiles.whole
  bytes_there = bytes_on back.took bytes

  profiles_took : Took layout.profiles layout.contexts profile_plane
  profiles_took =
      subst (λ (l : List ℕ). Took layout.profiles layout.contexts l) (profile_bytes own.profiles)
      (subst (λ (e : At). Took layout.profiles e (flat_map field_bytes (plane_fields profile_fields own.profiles))) profiles_end
      (fields_took 6 (plane_fields profile_fields own.profiles) layout.profiles p.behind_profiles bytes_there p.profiles))

  contexts_took : Took layout.contexts back.behind_all context_plane
  contexts_took =
      subst (λ (l : List ℕ). Took layout.contexts back.behind_all l) (context_bytes own.contexts)
      (subst (λ (e : At). Took layout.contexts e (flat_map field_bytes (plane_fields context_fields own.contexts))) contexts_end
      (fields_took 7 (plane_fields context_fields own.contexts) layout.contexts p.behind_contexts (bytes_on profiles_took bytes_there) p.contexts))

  left_is : left_of at ≡ lists_bytes layout ++ (profile_plane ++ (context_plane ++ []))
  left_is =
      back.took.left ∙ ap (λ (l : List ℕ). lists_bytes layout ++ l)
      (profiles_took.left ∙ ap (λ (l : List ℕ). profile_plane ++ l) (contexts_took.left ∙ ap (λ (l : List ℕ). context_plane ++ l) back.none))

  -- ---- as the content spells it

  many_procs : length names.procs ≡ head.procs
  many_procs = length-map layout.procs raw_proc_name ∙ back.procs

  many_files : length names.files ≡ head.files
  many_files = length-map layout.files file_name ∙ back.files

  many_nodes : length own.nodes ≡ head.nodes
  many_nodes = length-map layout.nodes (node_of names) ∙ back.nodes

  abbrev own_counts : List ℕ
  own_counts = length names.procs ∷ length names.files ∷ length own.nodes ∷ []

  counts_are : raw_counts head ≡ own_counts
  counts_are = λ i. sym many_procs i ∷ sym many_files i ∷ sym many_nodes i ∷ []

  numbers_are : raw_head_numbers version head.events head.runs ≡ head_numbers version own
  numbers_are =
      (λ i. raw_head_numbers version (sym back.events i) (sym back.runs i)) ∙ numbers_of version layout (numbers_few layout p.head)

  version_is : version_of own ≡ version
  version_is = version_again version layout headed (runs_right layout p.head) (not_elsewhere layout p.head) (numbers_few layout p.head)

  nodes_are : flat_map (node_bytes names) own.nodes ≡ flat_map raw_node_bytes layout.nodes
  nodes_are =
      nodes_spelled names (procs_up layout.procs (used_procs layout.nodes) p.procs) (files_up layout.files (used_files layout.nodes) p.files) layout.nodes
      (subst (λ (n : ℕ). All (λ r. in_range n (length names.files) r.scope ≡ true) layout.nodes) (sym (length-map layout.procs raw_proc_name))
      (subst (λ (n : ℕ). All (λ r. in_range (length layout.procs) n r.scope ≡ true) layout.nodes) (sym (length-map layout.files file_name)) (ranged layout c p)))

  own_spelled : database_magic version ++ (raw_head_bytes version head ++ left_of at) ≡ events_spelling own
  unfolding events_spelling
  own_spelled =
      ap (λ (l : List ℕ). database_magic version ++ (raw_head_bytes version head ++ l)) left_is
      ∙ seams (database_magic version) (words (raw_head_numbers version head.events head.runs)) (words (raw_counts head)) (flat_map raw_proc_bytes layout.procs) (flat_map raw_file_bytes layout.files) (flat_map raw_node_bytes layout.nodes) profile_plane context_plane
      ∙ (λ i. (database_magic (sym version_is i) ++ words (numbers_are i)) ++ (words (counts_are i) ++ sym (procs_spelled layout.procs (used_procs layout.nodes) p.procs) i ++ sym (files_spelled layout.files) i ++ sym nodes_are i ++ profile_plane ++ context_plane))
      ∙ (λ i. (database_magic (version_of own) ++ words (head_numbers (sym version_is i) own)) ++ shared_bytes names own.nodes own.profiles own.contexts)

-- what is read of a database is spelled by its bytes
pub read_spelled : (bytes : List ℕ) (c : EventContent) → IsBytes bytes → events_in bytes ≡ Ok c → bytes ≡ events_spelling c
read_spelled bytes c are is =
    let a = passed bytes c is in
    let r : IsRead bytes a.0 = read bytes a.0 a.1 in
    let front = version_took bytes r.version r.begun in
    let took = head_took r.version (after_magic bytes) r.next r.head are r.headed in
    front ∙ ap (λ (l : List ℕ). database_magic r.version ++ l) took.left
    ∙ own_spelled a.0 c a.2 r.version r.is r.head r.next (bytes_on took are) (body_back r.head r.next a.0 (bytes_on took are) r.bodied) ∙ ap events_spelling a.2.is

-- and so its spelling is read as the same
pub read_again : (bytes : List ℕ) (c : EventContent) → IsBytes bytes → events_in bytes ≡ Ok c → events_in (events_spelling c) ≡ Ok c
read_again bytes c are is = subst (λ (b : List ℕ). events_in b ≡ Ok c) (read_spelled bytes c are is) is
