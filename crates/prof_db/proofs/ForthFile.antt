-- What was written is read as the same: how the whole file is cut into fields.
use Rattle.std.proofs.Common.{◌≡◌, ℕ, ◌≤◌, List, [], ◌∷◌, ◌++◌, length, map, drop, All, Ok, refl, sym, ap, subst, ◌∙◌, append_assoc, append-nil, arith}
use Rattle.std.proofs.lemmas.List.{length-map}
use Rattle.std.specs.List.{enumerate_from, flat_map}
use Rattle.prof_bytes.specs.Reading.{At, left_of}
use Rattle.scope_types.specs.Columns.{columns_of}
use Rattle.tree_types.specs.declared.content.EventContent.{EventContent}
use Rattle.prof_db.specs.declared.raw.Head.{Head}
use Rattle.prof_db.specs.declared.raw.Layout.{Layout}
use Rattle.prof_db.specs.declared.raw.RawEntry.{RawEntry}
use Rattle.prof_db.specs.declared.raw.RawFile.{RawFile}
use Rattle.prof_db.specs.declared.raw.RawNode.{RawNode}
use Rattle.prof_db.specs.declared.raw.RawProc.{RawProc}
use Rattle.prof_bytes.specs.Repeated.{times}
use Rattle.prof_db.specs.declared.raw.Version.{Version}
use Rattle.scope_types.specs.Limits.{most_runs}
use Rattle.prof_db.specs.Layout.{after_magic, body_from, file_from, head_from, layout_in, node_from, past_list, proc_from, version_in}
use Rattle.prof_db.specs.NameRules.{file_name}
use Rattle.prof_db.specs.Spelling.{database_magic, context_entry_bytes, file_name_bytes, head_numbers, node_bytes, procedure_bytes, profile_entry_bytes, events_spelling, version_of, with_count}
use Rattle.prof_bytes.specs.Number.{words}
use Rattle.prof_db.specs.Stored.{IsWord}
use Rattle.prof_bytes.proofs.Lists.{items_come}
use Rattle.prof_bytes.proofs.Written.{Comes}
use Rattle.prof_db.proofs.Headed.{made_of}
use Rattle.prof_db.proofs.ForthHead.{behind_magic, head_forth, raw_event, version_comes}
use Rattle.prof_db.proofs.ForthItems.{FileFits, NodeFits, ProcFits, bare_node, bare_proc, file_forth, node_forth, proc_forth, raw_node, raw_proc}
use Rattle.prof_db.proofs.ForthPlanes.{ListFits, PastListFits, PlaneRead, bare_entry, past_plane_forth, plane_forth, raw_list}

abbrev pub profile_plane : EventContent → List ℕ
profile_plane c = flat_map (with_count profile_entry_bytes) c.profiles

abbrev pub context_plane : EventContent → List ℕ
context_plane c = flat_map (with_count context_entry_bytes) c.contexts

-- a content of which each number has its bytes
pub record ContentFits (c : EventContent) : Type 0 where
  pub some_runs : 1 ≤ length c.runs
  pub few_runs : length c.runs ≤ most_runs
  pub many_events : IsWord (length c.events)
  pub periods : All (λ e. IsWord e.period) c.events
  pub harts : All IsWord c.runs
  pub columns : length c.profiles ≡ columns_of (length c.events) c.runs
  pub lists : length c.contexts ≡ length c.nodes
  pub many_procs : IsWord (length c.names.procs)
  pub many_files : IsWord (length c.names.files)
  pub many_nodes : IsWord (length c.nodes)
  pub procs : All ProcFits c.names.procs
  pub files : All FileFits c.names.files
  pub nodes : All (NodeFits c.names) c.nodes
  pub profiles : All ListFits c.profiles
  pub contexts : All PastListFits c.contexts

abbrev pub head_of : EventContent → Head
head_of c = record {
  version = version_of c;
  events = map raw_event c.events;
  runs = c.runs;
  procs = length c.names.procs;
  files = length c.names.files;
  nodes = length c.nodes;
}

-- the content's fields, as they are in the file
pub record IsLaid (c : EventContent) : Type 0 where
  pub procs : List RawProc
  pub files : List RawFile
  pub nodes : List RawNode
  pub entries : List RawEntry
  pub profiles : At
  pub contexts : At
  pub same_procs : map bare_proc procs ≡ map raw_proc c.names.procs
  pub same_files : map file_name files ≡ map (λ f. f) c.names.files
  pub same_nodes : map bare_node nodes ≡ map (raw_node c.names) c.nodes
  pub same_entries : map bare_entry entries ≡ flat_map raw_list (enumerate_from 0 c.profiles)
  pub profiles_left : left_of profiles ≡ profile_plane c ++ context_plane c
  pub contexts_left : left_of contexts ≡ context_plane c ++ []

abbrev pub layout_of : (c : EventContent) → IsLaid c → Layout
layout_of c laid = made_of (head_of c) laid.procs laid.files laid.nodes laid.entries laid.profiles laid.contexts

seams : (m w k p f n a b : List ℕ) → (m ++ w) ++ (k ++ p ++ f ++ n ++ a ++ b) ≡ m ++ (w ++ (k ++ (p ++ (f ++ (n ++ (a ++ b))))))
seams m w k p f n a b = simp append_assoc

module _ (c : EventContent) (fits : ContentFits c) where
  abbrev procs : ℕ
  procs = length c.names.procs

  abbrev files : ℕ
  files = length c.names.files

  abbrev many : ℕ
  many = length c.nodes

  abbrev head : Head
  head = head_of c

  abbrev node_part : List ℕ
  node_part = flat_map (node_bytes c.names) c.nodes ++ (profile_plane c ++ context_plane c)

  abbrev file_part : List ℕ
  file_part = flat_map file_name_bytes c.names.files ++ node_part

  abbrev proc_part : List ℕ
  proc_part = flat_map procedure_bytes c.names.procs ++ file_part

  abbrev counts : List ℕ
  counts = procs ∷ files ∷ many ∷ []

  head_comes : (at : At) (rest : List ℕ) → left_of at ≡ words (head_numbers (version_of c) c) ++ (words counts ++ rest) → Comes (head_from (version_of c) at) head rest
  head_comes at rest left = head_forth c fits.some_runs (let few = fits.few_runs in omega (arith, few)) fits.many_events fits.periods fits.harts procs files many fits.many_procs fits.many_files fits.many_nodes at rest left

  body_forth : (at : At) → left_of at ≡ proc_part → (laid : IsLaid c) × (body_from head at ≡ Ok (layout_of c laid))
  unfolding body_from
  body_forth at left =
      let a = items_come proc_from bare_proc raw_proc procedure_bytes ProcFits proc_forth c.names.procs 0 [] at file_part fits.procs left in
      let b = items_come file_from file_name (λ f. f) file_name_bytes FileFits file_forth c.names.files 0 [] a.next node_part fits.files a.left in
      let n = items_come node_from bare_node (raw_node c.names) (node_bytes c.names) (NodeFits c.names) (node_forth c.names) c.nodes 0 [] b.next (profile_plane c ++ context_plane c) fits.nodes b.left in
      let many_columns : length c.profiles ≡ columns_of (length (map raw_event c.events)) c.runs = fits.columns ∙ ap (λ (n : ℕ). columns_of n c.runs) (sym (length-map c.events raw_event)) in
      let e : PlaneRead (columns_of (length (map raw_event c.events)) c.runs) 0 [] n.next c.profiles (context_plane c) =
      subst (λ (k : ℕ). PlaneRead k 0 [] n.next c.profiles (context_plane c)) many_columns (plane_forth c.profiles 0 [] n.next (context_plane c) fits.profiles n.left) in
      let left_all : left_of e.next ≡ context_plane c ++ [] = e.left ∙ sym (append-nil (context_plane c)) in
      let p : Comes (times past_list many 0 tt e.next) tt [] =
      subst (λ (k : ℕ). Comes (times past_list k 0 tt e.next) tt []) fits.lists (past_plane_forth c.contexts e.next [] fits.contexts left_all) in (
        record {
          procs = a.xs;
          files = b.xs;
          nodes = n.xs;
          entries = e.xs;
          profiles = n.next;
          contexts = e.next;
          same_procs = a.same;
          same_files = b.same;
          same_nodes = n.same;
          same_entries = e.same;
          profiles_left = n.left;
          contexts_left = left_all;
        },
        rw (a.is, b.is, n.is, e.is, p.1, p.2) refl,
      )

  pub layout_forth : (laid : IsLaid c) × (layout_in (events_spelling c) ≡ Ok (layout_of c laid))
  unfolding events_spelling layout_in
  layout_forth =
      let version : Version = version_of c in
      let numbers : List ℕ = words (head_numbers version c) in
      let rest : List ℕ = numbers ++ (words counts ++ proc_part) in
      let parted : events_spelling c ≡ database_magic version ++ rest =
      seams (database_magic version) numbers (words counts) (flat_map procedure_bytes c.names.procs) (flat_map file_name_bytes c.names.files) (flat_map (node_bytes c.names) c.nodes) (profile_plane c) (context_plane c) in
      let begun : version_in (events_spelling c) ≡ Ok version = ap version_in parted ∙ version_comes version rest in
      let h = head_comes (after_magic (events_spelling c)) proc_part (ap (drop 8) parted ∙ behind_magic version rest) in
      let b = body_forth h.0 h.2 in
      (b.0, rw (begun, h.1, b.1) refl)
