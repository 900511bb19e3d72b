use Rattle.std.proofs.Common.{◌∷◌, [], ◌++◌, List, length, map, refl, ap, ◌∙◌}
use Rattle.scope_types.specs.declared.frame.Counted.{Counted}
use Rattle.thread_cct.specs.declared.path_list.ListedPath.{ListedPath}
use Rattle.thread_cct.specs.Listing.{frame_at}
use Rattle.thread_cct.proofs.Listed.{put_listed, put_view}
use Rattle.thread_cct.proofs.path_list.PathList.push.Goals as goal

pub invariant_of-self-2 : goal.invariant_of-self-2
invariant_of-self-2 c =
    let own : ListedPath = record { first = c.len-first.result; count = c.args.count; length = length c.args.pcs.now; end = c.args.end } in
    let put = c.push_reserved.ensures.items ∙ ap (λ (ps : List ListedPath). ps ++ own ∷ []) c.reserve.ensures.items in
    put_listed c.self.inside.pcs.items c.args.pcs.now c.extend_from_slice.new.self.items c.self.inside.paths.items c.push_reserved.new.self.items own c.self.inside.frames c.self.invariant c.in_ok-extend_from_slice.ensures.items put
    (c.len-first.ensures ∙ c.self.inside.pcs.ok.0) refl c.requires.some c.requires.few

pub returns-clause-ok : goal.returns-clause-ok
returns-clause-ok c =
    let last : Counted = record { path = record { end = c.args.end; frames = map frame_at c.args.pcs.now }; count = c.args.count } in
    let own : ListedPath = record { first = c.len-first.result; count = c.args.count; length = length c.args.pcs.now; end = c.args.end } in
    let put = c.push_reserved.ensures.items ∙ ap (λ (ps : List ListedPath). ps ++ own ∷ []) c.reserve.ensures.items in
    put_view c.self.inside.pcs.items c.args.pcs.now c.extend_from_slice.new.self.items c.self.inside.paths.items c.push_reserved.new.self.items own c.self.inside.frames c.self.invariant c.in_ok-extend_from_slice.ensures.items put
    (c.len-first.ensures ∙ c.self.inside.pcs.ok.0) refl
    ∙ ap (λ (l : List Counted). l ++ last ∷ []) c.self.view_is
