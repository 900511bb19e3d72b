-- The first items of occurrences.
use Rattle.std.proofs.Common.{◌≡◌, ℕ, zero, suc, ◌+◌, ◌<◌, ◌≤◌, true, false, List, [], ◌∷◌, ◌++◌, length, get_or, take, drop, map, refl, sym, ap, subst, ◌∙◌, append-nil, true≢false, ◌&&◌, Option, None, Some, is_some}
use Rattle.std.specs.Prelude.{MatchOption}
use Rattle.std.specs.List.{flat_map}
use Rattle.std.proofs.lemmas.List.{take_more, map-append, take_all}
use Rattle.std.proofs.lemmas.List.Concat.{flat_map-append}
use Rattle.scope_types.specs.declared.scope.LineId.{LineId}
use Rattle.scope_types.specs.declared.scope.ProcId.{ProcId}
use Rattle.scope_types.specs.declared.scope.Scope.{Scope}
use Rattle.scope_types.specs.declared.scope.Scope.TheVariants.{Root, Proc, Inline, Call, Stmt}
use Rattle.tree_types.specs.declared.content.Content.{Content}
use Rattle.tree_types.specs.declared.content.Node.{Node}
use Rattle.tree_types.specs.OfContent.{IsProfile}
use Rattle.tree_types.specs.Naming.{Naming}
use Rattle.tree_types.specs.Paths.{Path, is_proc}
use Rattle.view_tables.specs.declared.groups.occurrence.Occurrence.{Occurrence}
use Rattle.view_tables.specs.declared.groups.occurrence.Split.{Split}
use Rattle.view_tables.specs.declared.groups.occurrence.View.{View}
use Rattle.view_tables.specs.declared.groups.occurrence.View.TheVariants.{Callers, Flat}
use Rattle.view_tables.specs.Views.{Item, Procedure, Sequences}
use Rattle.view_tables.specs.Flat.{call_line, frame_at, frame_proc, frames_up, line_file_item, line_item}
use Rattle.view_tables.specs.private.groups.Occurrences.{Held, cut_of, cut_one, cuts, first_sequence, has_frame, held, is_some_list, frame_items, items_left, view_sample, ups}
use Rattle.tree_types.proofs.ContentParts.{own_names_ascend}
use Rattle.view_tables.proofs.grouping.Ups.{ups_at, ups_past, ups_node}

pub cut_none : (o : ℕ) (items : List Item) → items ≡ [] → cut_one o items ≡ []
cut_none o items e = ap (cut_one o) e

pub cut_some : (o : ℕ) (items : List Item) (a : Item) (rest : List Item) → items ≡ a ∷ rest → cut_one o items ≡ (a, (o, rest)) ∷ []
cut_some o items a rest e = ap (cut_one o) e

drop_none : (n : ℕ) → drop {A = Item} n [] ≡ []
drop_none zero = refl
drop_none (suc n) = refl

-- ---- frames

-- the frame's items, by its line and the procedures found
abbrev pub frame_of : Naming → LineId → List ProcId → Sequences
frame_of naming line ids = map (λ id. line_file_item naming line ∷ Procedure id ∷ line_item line ∷ []) ids

abbrev pub frames_of : Naming → List LineId → Path → Sequences
frames_of naming lines outer = flat_map (λ line. frame_at naming line outer) lines

frames_none : (naming : Naming) (lines : List LineId) (outer : Path) → lines ≡ [] → frames_of naming lines outer ≡ []
frames_none naming lines outer e = ap (λ (ls : List LineId). frames_of naming ls outer) e

frames_no_proc : (naming : Naming) (lines : List LineId) (line : LineId) (outer : Path) → lines ≡ line ∷ [] → frame_proc outer ≡ [] → frames_of naming lines outer ≡ []
frames_no_proc naming lines line outer e f =
    ap (λ (ls : List LineId). frames_of naming ls outer) e ∙ ap (λ (ids : List ProcId). frame_of naming line ids ++ []) f

frames_one : (naming : Naming) (lines : List LineId) (line : LineId) (id : ProcId) (outer : Path) → lines ≡ line ∷ [] → frame_proc outer ≡ id ∷ []
    → frames_of naming lines outer ≡ (line_file_item naming line ∷ Procedure id ∷ line_item line ∷ []) ∷ []
frames_one naming lines line id outer e f =
    ap (λ (ls : List LineId). frames_of naming ls outer) e ∙ ap (λ (ids : List ProcId). frame_of naming line ids ++ []) f

pub frame_past : (naming : Naming) (scopes : Path) (level : ℕ) → scopes ≡ [] → frame_items Flat naming scopes level ≡ []
frame_past naming scopes level e = ap (λ (p : Path). frame_items Flat naming p level) e

pub frame_no_line : (naming : Naming) (scopes : Path) (s : Scope) (outer : Path) (level : ℕ) → scopes ≡ s ∷ outer → call_line s ≡ [] → frame_items Flat naming scopes level ≡ []
frame_no_line naming scopes s outer level e f =
    ap (λ (p : Path). frame_items Flat naming p level) e ∙ ap (λ (fs : Sequences). drop level (first_sequence fs)) (frames_none naming (call_line s) outer f) ∙ drop_none level

pub frame_no_proc : (naming : Naming) (scopes : Path) (s : Scope) (outer : Path) (level : ℕ) (line : LineId) → scopes ≡ s ∷ outer → call_line s ≡ line ∷ [] → frame_proc outer ≡ [] → frame_items Flat naming scopes level ≡ []
frame_no_proc naming scopes s outer level line e f g =
    ap (λ (p : Path). frame_items Flat naming p level) e ∙ ap (λ (fs : Sequences). drop level (first_sequence fs)) (frames_no_proc naming (call_line s) line outer f g) ∙ drop_none level

pub frame_is : (naming : Naming) (scopes : Path) (s : Scope) (outer : Path) (level : ℕ) (line : LineId) (id : ProcId) → scopes ≡ s ∷ outer → call_line s ≡ line ∷ [] → frame_proc outer ≡ id ∷ []
    → frame_items Flat naming scopes level ≡ drop level (line_file_item naming line ∷ Procedure id ∷ line_item line ∷ [])
frame_is naming scopes s outer level line id e f g =
    ap (λ (p : Path). frame_items Flat naming p level) e ∙ ap (λ (fs : Sequences). drop level (first_sequence fs)) (frames_one naming (call_line s) line id outer f g)

pub ruleset split_steps = (own_names_ascend, ups_past, ups_node, cut_none, cut_some, frame_past, frame_no_line, frame_no_proc, frame_is)

-- ---- where a view has frames

no_list : {X : Type 0} (xs : List X) → is_some_list xs ≡ false → xs ≡ []
no_list [] e = refl
no_list (x ∷ xs) e = absurd (true≢false e)

one_proc : (outer : Path) → is_some_list (frame_proc outer) ≡ true → (id : ProcId) × (frame_proc outer ≡ id ∷ [])
one_proc [] e = absurd (true≢false (sym e))
one_proc (Root kind ∷ outer) e = one_proc outer e
one_proc (Proc id ∷ outer) e = (id, refl)
one_proc (Inline callee call ∷ outer) e = one_proc outer e
one_proc (Call line ∷ outer) e = absurd (true≢false (sym e))
one_proc (Stmt line ∷ outer) e = absurd (true≢false (sym e))

pub frame_skipped : (view : View) (naming : Naming) (s : Scope) (outer : Path) → has_frame view (s ∷ outer) ≡ false → view_sample view naming (s ∷ outer) ≡ view_sample view naming outer
frame_skipped Callers naming (Root kind) outer e = refl
frame_skipped Callers naming (Proc id) outer e = absurd (true≢false e)
frame_skipped Callers naming (Inline callee call) outer e = refl
frame_skipped Callers naming (Call line) outer e = refl
frame_skipped Callers naming (Stmt line) outer e = refl
frame_skipped Flat naming (Root kind) outer e = refl
frame_skipped Flat naming (Proc id) outer e = refl
frame_skipped Flat naming (Inline callee call) outer e = refl
frame_skipped Flat naming (Call line) outer e = ap (λ (fs : Sequences). fs ++ frames_up naming outer) (frames_no_proc naming (line ∷ []) line outer refl (no_list (frame_proc outer) e))
frame_skipped Flat naming (Stmt line) outer e = ap (λ (fs : Sequences). fs ++ frames_up naming outer) (frames_no_proc naming (line ∷ []) line outer refl (no_list (frame_proc outer) e))

frame_ends : (naming : Naming) (line : LineId) (outer : Path) → is_some_list (frame_proc outer) ≡ true → frames_of naming (line ∷ []) outer ++ frames_up naming outer ≡ drop 0 (first_sequence (frames_of naming (line ∷ []) outer)) ∷ frames_up naming outer
frame_ends naming line outer e =
    let one = one_proc outer e in
    subst (λ (fs : Sequences). fs ++ frames_up naming outer ≡ drop 0 (first_sequence fs) ∷ frames_up naming outer) (sym (frames_one naming (line ∷ []) line one.0 outer refl one.1)) refl

pub frame_taken : (view : View) (naming : Naming) (s : Scope) (outer : Path) → has_frame view (s ∷ outer) ≡ true → view_sample view naming (s ∷ outer) ≡ frame_items view naming (s ∷ outer) 0 ∷ view_sample view naming outer
frame_taken Callers naming (Root kind) outer e = absurd (true≢false (sym e))
frame_taken Callers naming (Proc id) outer e = refl
frame_taken Callers naming (Inline callee call) outer e = absurd (true≢false (sym e))
frame_taken Callers naming (Call line) outer e = absurd (true≢false (sym e))
frame_taken Callers naming (Stmt line) outer e = absurd (true≢false (sym e))
frame_taken Flat naming (Root kind) outer e = absurd (true≢false (sym e))
frame_taken Flat naming (Proc id) outer e = absurd (true≢false (sym e))
frame_taken Flat naming (Inline callee call) outer e = absurd (true≢false (sym e))
frame_taken Flat naming (Call line) outer e = frame_ends naming line outer e
frame_taken Flat naming (Stmt line) outer e = frame_ends naming line outer e

pub no_frame_skips : (view : View) (naming : Naming) (scopes : Path) (s : Scope) (outer : Path) → scopes ≡ s ∷ outer → has_frame view scopes ≡ false → view_sample view naming scopes ≡ view_sample view naming outer
no_frame_skips view naming scopes s outer is none = ap (λ (p : Path). view_sample view naming p) is ∙ frame_skipped view naming s outer (ap (has_frame view) (sym is) ∙ none)

pub a_frame_adds : (view : View) (naming : Naming) (scopes : Path) (s : Scope) (outer : Path) → scopes ≡ s ∷ outer → has_frame view scopes ≡ true → view_sample view naming scopes ≡ frame_items view naming scopes 0 ∷ view_sample view naming outer
a_frame_adds view naming scopes s outer is some =
    ap (λ (p : Path). view_sample view naming p) is ∙ frame_taken view naming s outer (ap (has_frame view) (sym is) ∙ some) ∙ ap (λ (p : Path). frame_items view naming p 0 ∷ view_sample view naming outer) (sym is)

pub frame_at_node : (view : View) (c : Content) (number : ℕ) (d : Node) → IsProfile c → number < length c.nodes → has_frame view (ups c number) ≡ has_frame view ((get_or c.nodes number d).scope ∷ ups c (get_or c.nodes number d).parent)
frame_at_node view c number d profile lt = ap (has_frame view) (ups_at c number d profile lt)

pub not_proc : (s : Scope) → ((id : ProcId) → s ≡ Proc id → ⊥) → is_proc s ≡ false
not_proc (Root kind) other = refl
not_proc (Proc id) other = absurd (other id refl)
not_proc (Inline callee call) other = refl
not_proc (Call line) other = refl
not_proc (Stmt line) other = refl

some_proc : (outer : Path) (r : Option ProcId) → MatchOption r (frame_proc outer ≡ []) (λ id. frame_proc outer ≡ id ∷ []) → is_some r ≡ is_some_list (frame_proc outer)
some_proc outer None e = sym (ap is_some_list e)
some_proc outer (Some id) e = sym (ap is_some_list e)

-- a node of a list that is the content's
module _ (view : View) (c : Content) (all : List Node) (number : ℕ) (d : Node) (profile : IsProfile c) (own : all ≡ c.nodes) (lt : number < length c.nodes) where
  abbrev here : Node
  here = get_or all number d

  frame_here : has_frame view (ups c number) ≡ has_frame view (here.scope ∷ ups c here.parent)
  frame_here = frame_at_node view c number d profile lt ∙ ap (λ (l : List Node). has_frame view ((get_or l number d).scope ∷ ups c (get_or l number d).parent)) (sym own)

  pub callers_frame : view ≡ Callers → has_frame view (ups c number) ≡ is_proc here.scope
  callers_frame e = frame_here ∙ ap (λ v. has_frame v (here.scope ∷ ups c here.parent)) e

  pub no_line_no_frame : view ≡ Flat → call_line here.scope ≡ [] → has_frame view (ups c number) ≡ false
  no_line_no_frame e none =
      frame_here ∙ ap (λ v. has_frame v (here.scope ∷ ups c here.parent)) e ∙ ap (λ (ls : List LineId). is_some_list ls && is_some_list (frame_proc (ups c here.parent))) none

  pub frame_by_proc : (line : LineId) (r : Option ProcId) → view ≡ Flat → call_line here.scope ≡ line ∷ []
      → MatchOption r (frame_proc (ups c here.parent) ≡ []) (λ id. frame_proc (ups c here.parent) ≡ id ∷ []) → has_frame view (ups c number) ≡ is_some r
  frame_by_proc line r e one found =
      frame_here ∙ ap (λ v. has_frame v (here.scope ∷ ups c here.parent)) e ∙ ap (λ (ls : List LineId). is_some_list ls && is_some_list (frame_proc (ups c here.parent))) one
      ∙ sym (some_proc (ups c here.parent) r found)

-- ---- occurrences in a row

pub cuts_more : (view : View) (c : Content) (occurrences : List Occurrence) (i : ℕ) (p : Occurrence) → i < length occurrences → p ≡ get_or occurrences i p
    → cuts (map (held view c) (take (i + 1) occurrences)) ≡ cuts (map (held view c) (take i occurrences)) ++ cut_one p.frame (items_left view c p)
cuts_more view c occurrences i p lt is =
    ap (λ (ps : List Occurrence). cuts (map (held view c) ps)) (take_more occurrences i p lt)
    ∙ ap cuts (map-append (held view c) (take i occurrences) (get_or occurrences i p ∷ []))
    ∙ flat_map-append (λ (h : Held). cut_one h.0 h.1) (map (held view c) (take i occurrences)) (held view c (get_or occurrences i p) ∷ [])
    ∙ ap (λ (xs : List (Item × Held)). cuts (map (held view c) (take i occurrences)) ++ xs) (append-nil (cut_one (get_or occurrences i p).frame (items_left view c (get_or occurrences i p))) ∙ ap (λ (q : Occurrence). cut_one q.frame (items_left view c q)) (sym is))

pub cut_more : (view : View) (c : Content) (splits : List Split) (occurrences : List Occurrence) (i : ℕ) (p : Occurrence) (s : Split) → i < length occurrences → p ≡ get_or occurrences i p
    → map (cut_of view c) splits ≡ cuts (map (held view c) (take i occurrences)) → cut_one p.frame (items_left view c p) ≡ cut_of view c s ∷ []
    → map (cut_of view c) (splits ++ s ∷ []) ≡ cuts (map (held view c) (take (i + 1) occurrences))
cut_more view c splits occurrences i p s lt is so_far one =
    map-append (cut_of view c) splits (s ∷ []) ∙ ap (λ (xs : List (Item × Held)). xs ++ cut_of view c s ∷ []) so_far
    ∙ ap (λ (xs : List (Item × Held)). cuts (map (held view c) (take i occurrences)) ++ xs) (sym one) ∙ sym (cuts_more view c occurrences i p lt is)

pub cut_same : (view : View) (c : Content) (splits : List Split) (occurrences : List Occurrence) (i : ℕ) (p : Occurrence) → i < length occurrences → p ≡ get_or occurrences i p
    → map (cut_of view c) splits ≡ cuts (map (held view c) (take i occurrences)) → cut_one p.frame (items_left view c p) ≡ []
    → map (cut_of view c) splits ≡ cuts (map (held view c) (take (i + 1) occurrences))
cut_same view c splits occurrences i p lt is so_far none =
    so_far ∙ sym (append-nil (cuts (map (held view c) (take i occurrences))))
    ∙ ap (λ (xs : List (Item × Held)). cuts (map (held view c) (take i occurrences)) ++ xs) (sym none) ∙ sym (cuts_more view c occurrences i p lt is)

pub cut_all : (view : View) (c : Content) (splits : List Split) (occurrences : List Occurrence) (i : ℕ) → length occurrences ≤ i
    → map (cut_of view c) splits ≡ cuts (map (held view c) (take i occurrences)) → map (cut_of view c) splits ≡ cuts (map (held view c) occurrences)
cut_all view c splits occurrences i le so_far = so_far ∙ ap (λ (ps : List Occurrence). cuts (map (held view c) ps)) (take_all i occurrences le)

pub ruleset cut_steps = (cut_more, cut_same, cut_all)
