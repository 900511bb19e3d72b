-- From the steps of a command to its outcome.
use Rattle.std.proofs.Common.{◌≡◌, ◌∙◌, inl, inr, List, [], Option, Some, None, Result, Ok, Err, IsTrue, refl, sym, ap, subst}
use Rattle.std.proofs.lemmas.List.{append-nil}
use Rattle.prof_bytes.specs.declared.fail.Memory.{Memory as Token}
use Rattle.prof_devices.specs.Outside.{Failures, ShelfState, SinkState}
use Rattle.command_line.specs.declared.status.Status.{Status}
use Rattle.command_line.specs.declared.status.Status.TheVariants as answers
use Rattle.hpc_top.specs.declared.status.Stop.{Stop}
use Rattle.hpc_top.specs.declared.status.Stop.TheVariants.{Input, Device, Memory}
use Rattle.command_line.specs.declared.status.Place.TheVariants.{Read, Store, Print}
use Rattle.command_line.specs.declared.product.Product.{Product}
use Rattle.command_line.specs.Kind.{Wanted}
use Rattle.command_line.specs.Request.{Request}
use Rattle.hpc_top.specs.Verdict.{verdict}
use Rattle.hpc_top.specs.Outcome.{World, Call, call_of, after_fetches, are_known, Untouched, SomeFetched, Outcome, Answers}
use Rattle.hpc_top.specs.private.Steps.{StopsEarly, Delivers}
use Rattle.command_line.specs.Message.{StaysOrMemory}
use Rattle.hpc_top.specs.private.Stop.{answer_of, stopped}
use Rattle.hpc_top.proofs.Fetching.{some_for, some_up_to}

-- where nothing has changed, nothing but the failed reads and the log has, and no file was fetched
same_world : (call : Call) → call.after ≡ call.before → Untouched call
same_world call same = (subst (λ (w : World). w.shelf ≡ record call.before.shelf { reads = w.shelf.reads; log = w.shelf.log }) (sym same) refl, ap (λ (w : World). w.out) same)

none_fetched : (wants : List Wanted) (call : Call) → call.after ≡ call.before → SomeFetched wants call.before.shelf call.after.shelf
none_fetched wants call same = record { fetched = []; left = wants; wanted = refl; log = ap (λ (w : World). w.shelf.log) same ∙ sym (append-nil call.before.shelf.log) }

-- where nothing but the log has changed, nothing but the failed reads and the log has
no_reads : (s t : ShelfState) → t ≡ record s { log = t.log } → t ≡ record s { reads = t.reads; log = t.log }
no_reads s t same = same ∙ sym (ap (λ (reads : Failures). let u : ShelfState = record s { reads = reads; log = t.log } in u) (ap (λ (u : ShelfState). u.reads) same))

-- the fetches stop, or what was fetched is refused
pub unprepared : (request : Request) (s t : ShelfState) (o : SinkState) (stop : Stop) → StopsEarly request.reads s t (verdict request s.files) stop → Outcome request (call_of s t o o) (stopped stop)
unprepared request s t o (Input fault) h = (h.0, refl, h.1, h.2)
unprepared request s t o (Device Read) h = ((h.0, refl), h.1)
unprepared request s t o (Device Store) h = absurd h
unprepared request s t o (Device Print) h = absurd h
unprepared request s t o (Memory memory) h = inl ((no_reads s t h.0, refl), h.1)

-- what was made is delivered, whole or in part
pub delivered : (request : Request) (call : Call) (p : Product) → (IsTrue (are_known request.reads call.before.shelf) → verdict request call.before.shelf.files ≡ Ok p) → (end : Result (Unit {0}) Stop) → Delivers request.stores p (after_fetches request.reads call) end → Outcome request call (answer_of end)
delivered request call p made (Ok _) h = (p, made, h)
delivered request call p made (Err (Input fault)) h = absurd h
delivered request call p made (Err (Device Read)) h = absurd h
delivered request call p made (Err (Device Store)) h = ((p, made, h.0), record { rose = h.1.rose; named = h.1.named })
delivered request call p made (Err (Device Print)) h = ((p, made, h.0), h.1)
delivered request call p made (Err (Memory memory)) (inl h) = inr (inl (p, made, h))
delivered request call p made (Err (Memory memory)) (inr h) = inr (inr (p, made, h))

-- any answer but `Done` may become `Memory`
pub or_memory : (asked : Option Request) (call : Call) (before after : Status) → Answers asked call before → StaysOrMemory before after → Answers asked call after
or_memory asked call answers.Done after row same = subst (Answers asked call) (sym same) row
or_memory asked call answers.Usage after row (inl same) = subst (Answers asked call) (sym same) row
or_memory asked call (answers.Input fault) after row (inl same) = subst (Answers asked call) (sym same) row
or_memory asked call (answers.Device place) after row (inl same) = subst (Answers asked call) (sym same) row
or_memory None call (answers.Memory memory) after row is = subst (Answers None call) (sym is.1) row
or_memory (Some request) call (answers.Memory memory) after row is = subst (Answers (Some request) call) (sym is.1) row
or_memory None call answers.Usage after row (inr is) = subst (Answers None call) (sym is.1) row
or_memory None call (answers.Input fault) after row (inr is) = absurd row
or_memory None call (answers.Device place) after row (inr is) = absurd row
or_memory (Some request) call answers.Usage after row (inr is) = absurd row
or_memory (Some request) call (answers.Input fault) after row (inr is) =
    subst (Answers (Some request) call) (sym is.1) (inl ((no_reads call.before.shelf call.after.shelf row.0, row.1), some_for fault request.reads call.before.shelf call.after.shelf row.2))
or_memory (Some request) call (answers.Device Read) after row (inr is) =
    subst (Answers (Some request) call) (sym is.1) (inl (row.0, some_up_to row.1.failed request.reads call.before.shelf call.after.shelf row.1.fetched))
or_memory (Some request) call (answers.Device Store) after row (inr is) = subst (Answers (Some request) call) (sym is.1) (inr (inl row.0))
or_memory (Some request) call (answers.Device Print) after row (inr is) = subst (Answers (Some request) call) (sym is.1) (inr (inr row.0))

-- no memory for the request itself
pub no_request : (asked : Option Request) (call : Call) (memory : Token) → call.after ≡ call.before → Answers asked call (answers.Memory memory)
no_request None call memory same = same
no_request (Some request) call memory same = inl (same_world call same, none_fetched request.reads call same)
