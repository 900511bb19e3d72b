use Rattle.prof_devices.proofs.ShownByFolder.{folder_fetched}
use Rattle.prof_devices.proofs.folder.FolderShelfShelf.fetch.Goals as goal

pub returns-clause-answer : goal.returns-clause-answer
returns-clause-answer g c = folder_fetched c.args.self.now.1 c.fetch_next.new.self.1 _ _ _ c.fetch_next.ensures.unknown c.fetch_next.ensures.counts c.fetch_next.ensures.exact
