use Rattle.std.proofs.Common.{◌≡◌, ◌<◌, List, ℕ, length, ap, sym, ◌∙◌, arith}
use Rattle.scope_types.specs.Raw.{same_raw}
use Rattle.thread_cct.specs.private.Listed.{listed_path}
use Rattle.thread_cct.proofs.Listed.{absent_more, found_here, path_is_at}
use Rattle.thread_cct.proofs.path_list.PathList.index_of.Goals as goal

pub returns-then-is_path : goal.returns-then-is_path
returns-then-is_path c =
    let less : c.loop-index.index < length c.self.inside.paths.items = omega (arith, c.loop-index-test.true, c.len-index-end.ensures, c.self.inside.paths.ok.0) in
    let at = path_is_at c.self.inside.pcs.items c.self.inside.paths.items c.args.self.now c.loop-index.index c.index.result.now c.self.view_is c.index.ensures less in
    let same : c.is_path.result ≡ same_raw c.args.raw.now (listed_path c.self.inside.pcs.items c.index.result.now).path =
    c.is_path.ensures ∙ ap (λ (l : List ℕ). same_raw c.args.raw.now (listed_path l c.index.result.now).path) c.as_slice-pcs.ensures.value in
    found_here c.args.raw.now c.args.self.now c.loop-index.index (listed_path c.self.inside.pcs.items c.index.result.now) c.loop-index.invariant at (sym same ∙ c.if-is_path.true)

pub loop-index-preserved : goal.loop-index-preserved
loop-index-preserved c =
    let less : c.loop-index.index < length c.self.inside.paths.items = omega (arith, c.loop-index-test.true, c.len-index-end.ensures, c.self.inside.paths.ok.0) in
    let at = path_is_at c.self.inside.pcs.items c.self.inside.paths.items c.args.self.now c.loop-index.index c.index.result.now c.self.view_is c.index.ensures less in
    let same : c.is_path.result ≡ same_raw c.args.raw.now (listed_path c.self.inside.pcs.items c.index.result.now).path =
    c.is_path.ensures ∙ ap (λ (l : List ℕ). same_raw c.args.raw.now (listed_path l c.index.result.now).path) c.as_slice-pcs.ensures.value in
    absent_more c.args.raw.now c.args.self.now c.loop-index.index (listed_path c.self.inside.pcs.items c.index.result.now) c.loop-index.invariant at (sym same ∙ c.if-is_path.false)
