use Rattle.prof_devices.proofs.ShownByFolder.{folder_stored}
use Rattle.prof_devices.proofs.folder.FolderShelfShelf.store.Goals as goal

pub returns-clause-answer : goal.returns-clause-answer
returns-clause-answer g c = folder_stored c.args.self.now.1 c.store_next.new.self.1 _ _ _ c.store_next.ensures.unknown c.store_next.ensures.counts c.store_next.ensures.exact
