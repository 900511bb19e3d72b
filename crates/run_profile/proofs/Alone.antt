-- The content of retired instructions alone, which is written in the format's first version.
use Rattle.std.proofs.Common.{◌≡◌, ℕ, ◌+◌, ◌==◌, true, List, [], ◌∷◌, ◌++◌, length, sum, Result, Ok, Err, IfOk, refl, sym, ap, ◌∙◌, append-nil, arith}
use Rattle.scope_types.specs.declared.event.Event.{Event}
use Rattle.scope_types.specs.declared.event.Event.TheVariants.{Retired, Loads, Stores, Taken}
use Rattle.scope_types.specs.declared.event.EventPeriod.{EventPeriod}
use Rattle.scope_types.specs.Events.{event_number, is_retired_alone}
use Rattle.prof_db.specs.Spelling.{database_spelling, events_spelling}
use Rattle.tree_types.specs.declared.content.Content.{Content}
use Rattle.tree_types.specs.declared.content.EventContent.{EventContent}
use Rattle.tree_types.specs.Database.{period_at}
use Rattle.tree_types.specs.OfContent.{content_of_event, content_table, single_content, with_event}
use Rattle.run_profile.specs.EventTexts.{tables_in}

is_retired : (event : Event) → (event_number event == 0) ≡ true → Retired ≡ event
is_retired Retired is = refl
is_retired Loads is = absurd cc
is_retired Stores is = absurd cc
is_retired Taken is = absurd cc

-- the one event
abbrev one_event : List EventPeriod → List EventPeriod
one_event events = record { event = Retired; period = period_at events 0 } ∷ []

events_alone : (events : List EventPeriod) → is_retired_alone events ≡ true → one_event events ≡ events
events_alone [] alone = absurd cc
events_alone (e ∷ []) alone = (let same : Retired ≡ e.event = is_retired e.event alone in ap (λ (event : Event). (let l : List EventPeriod = record { event = event; period = e.period } ∷ [] in l)) same)
events_alone (e ∷ f ∷ rest) alone = absurd cc

pub one_alone : (events : List EventPeriod) → is_retired_alone events ≡ true → length events ≡ 1
one_alone [] alone = absurd cc
one_alone (e ∷ []) alone = refl
one_alone (e ∷ f ∷ rest) alone = absurd cc

one_run_alone : (runs : List ℕ) → length runs ≡ 1 → sum runs ∷ [] ≡ runs
one_run_alone [] one = absurd (omega (arith, one))
one_run_alone (h ∷ []) one = (let same : 0 + h ≡ h = omega arith in ap (λ (n : ℕ). n ∷ []) same)
one_run_alone (h ∷ k ∷ rest) one = absurd (omega (arith, one))

-- what the law of one event says
abbrev pub OneLaw : Type 0
OneLaw = (c : EventContent) → length c.events ≡ 1 → content_of_event c 0 ≡ single_content c

alone_again : (c : EventContent) → is_retired_alone c.events ≡ true → length c.runs ≡ 1 → with_event Retired (single_content c) ≡ c
alone_again c alone one =
    let events : one_event c.events ≡ c.events = events_alone c.events alone in
    let runs : sum c.runs ∷ [] ≡ c.runs = one_run_alone c.runs one in
    λ i. record { events = events i; runs = runs i; names = c.names; nodes = c.nodes; profiles = c.profiles; contexts = c.contexts }

pub alone_spelled : (c : EventContent) (own : Content) → is_retired_alone c.events ≡ true → length c.runs ≡ 1 → content_of_event c 0 ≡ single_content c → own ≡ content_of_event c 0 → database_spelling own ≡ events_spelling c
unfolding database_spelling events_spelling
alone_spelled c own alone one whole is = ap database_spelling (is ∙ whole) ∙ ap events_spelling (alone_again c alone one)

pub alone_table : (c : EventContent) (text : List ℕ) (lines : List (List ℕ)) → lines ≡ [] ∷ [] → text ++ content_table (content_of_event c 0) ≡ text ++ tables_in lines c
alone_table c text lines none =
    ap (λ (t : List ℕ). text ++ t) (sym (append-nil (content_table (content_of_event c 0))))
    ∙ ap (λ (ls : List (List ℕ)). text ++ tables_in ls c) (sym none)

-- what is made of the one event
pub alone_both : {F : Type 0} (c : EventContent) (own : Content) (text : List ℕ) (result : Result (List ℕ × List ℕ) F) → is_retired_alone c.events ≡ true → length c.runs ≡ 1 → content_of_event c 0 ≡ single_content c → own ≡ content_of_event c 0
    → IfOk result (λ both. (both.0 ≡ database_spelling own) × (both.1 ≡ text ++ content_table own)) → IfOk result (λ both. (both.0 ≡ events_spelling c) × (both.1 ≡ text ++ content_table (content_of_event c 0)))
alone_both c own text (Ok both) alone one whole is made = (made.0 ∙ alone_spelled c own alone one whole is, made.1 ∙ ap (λ (q : Content). text ++ content_table q) is)
alone_both c own text (Err fail) alone one whole is made = tt

-- and put after its line, which is empty
pub alone_lines : {F : Type 0} (c : EventContent) (text : List ℕ) (lines : List (List ℕ)) (result : Result (List ℕ × List ℕ) F) → lines ≡ [] ∷ []
    → IfOk result (λ both. (both.0 ≡ events_spelling c) × (both.1 ≡ text ++ content_table (content_of_event c 0))) → IfOk result (λ both. (both.0 ≡ events_spelling c) × (both.1 ≡ text ++ tables_in lines c))
alone_lines c text lines (Ok both) none made = (made.0, made.1 ∙ alone_table c text lines none)
alone_lines c text lines (Err fail) none made = tt
