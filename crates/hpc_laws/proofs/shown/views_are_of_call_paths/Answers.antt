use Rattle.run_profile.proofs.Tables.{table_of_event, shown_of_stored}
use Rattle.hpc_laws.proofs.shown.views_are_of_call_paths.Goals as goal

pub returns-clause-content : goal.returns-clause-content
returns-clause-content c =
    table_of_event c.content_holds_its_paths.ensures.table c.tables_are_of_call_paths.ensures.callers c.tables_are_of_call_paths.ensures.flat c.event_contents_have_parts.ensures.part
    c.event_paths_are_paths.ensures.some c.event_paths_are_paths.ensures.below c.event_paths_are_paths.ensures.nodes

pub returns-clause-stored : goal.returns-clause-stored
returns-clause-stored c =
    shown_of_stored c.content_holds_its_paths.ensures.table c.tables_are_of_call_paths.ensures.callers c.tables_are_of_call_paths.ensures.flat c.event_contents_have_parts.ensures.part
    c.event_paths_are_paths.ensures.some c.event_paths_are_paths.ensures.below c.event_paths_are_paths.ensures.nodes c.event_call_paths_are_stored.ensures.read
