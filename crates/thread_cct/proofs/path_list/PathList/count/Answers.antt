use Rattle.thread_cct.specs.private.Listed.{listed_path}
use Rattle.thread_cct.proofs.Listed.{index_within, path_is_at}
use Rattle.thread_cct.proofs.path_list.PathList.count.Goals as goal

pub returns : goal.returns
returns c =
    let less = index_within c.self.inside.pcs.items c.self.inside.paths.items c.args.self.now c.args.index c.self.view_is c.requires in (
      (listed_path c.self.inside.pcs.items c.index.result.now).path,
      path_is_at c.self.inside.pcs.items c.self.inside.paths.items c.args.self.now c.args.index c.index.result.now c.self.view_is c.index.ensures less,
    )
