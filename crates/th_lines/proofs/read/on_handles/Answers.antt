use Rattle.std.proofs.Common.{◌≡◌, ℕ, true, List, length, refl, Some, None, Ok, rules}
use Rattle.std.specs.Prelude.{codes}
use Rattle.std.proofs.lemmas.Slice.Eq.{HasBytesAt}
use Rattle.th_model.specs.Names.{is_name}
use Rattle.th_lines.specs.declared.command.Command.{Command}
use Rattle.th_lines.specs.declared.command.Command.TheVariants.{On}
use Rattle.th_lines.specs.declared.command.Action.TheVariants.{Bind, Unbind, Subscribe, Unsubscribe, Resubscribe, Ask, End}
use Rattle.th_model.specs.declared.verb.Question.TheVariants.{Queued, Readers}
use Rattle.th_model.specs.declared.verb.Start.TheVariants.{Tail}
use Rattle.th_lines.specs.Fields.{by_word, ended, named, or_field}
use Rattle.th_lines.specs.Commands.{carries_value, beginning, on, tracing, topic_words}
use Rattle.th_lines.proofs.Readers.{reads-after}
use Rattle.th_lines.proofs.Tables.{by_word-none, ◌&◌}
use Rattle.th_lines.proofs.read.on_handles.Goals as goal

-- the word's own reader reads the name
reads : (spelled : List ℕ) (read : List ℕ → Command) (word t : List ℕ) → by_word topic_words spelled (Some t) ≡ named read (Some t)
    → is_name t ≡ true → length word ≡ length spelled → HasBytesAt word 0 spelled → by_word topic_words word (Some t) ≡ Some (read t)
reads spelled read word t own name long bytes =
    reads-after carries_value topic_words spelled word t None (λ name. ended (read name)) (Ok (read t)) own name long bytes refl

pub returns-in-BIND : goal.returns-in-BIND
unfolding topic_words
returns-in-BIND c = reads (codes "BIND") (on Bind) c.args.word.now c.args.t refl c.requires (search rules) (search rules)

pub returns-in-UNBIND : goal.returns-in-UNBIND
unfolding topic_words
returns-in-UNBIND c = reads (codes "UNBIND") (on Unbind) c.args.word.now c.args.t refl c.requires (search rules) (search rules)

pub returns-in-SUB : goal.returns-in-SUB
unfolding topic_words
returns-in-SUB c =
    let next = λ (t : List ℕ). or_field (On t (Subscribe Tail)) (by_word (beginning t)) in
    reads-after carries_value topic_words (codes "SUB") c.args.word.now c.args.t None next (Ok (On c.args.t (Subscribe Tail)))
    refl c.requires (search rules) (search rules) refl

pub returns-in-UNSUB : goal.returns-in-UNSUB
unfolding topic_words
returns-in-UNSUB c = reads (codes "UNSUB") (on Unsubscribe) c.args.word.now c.args.t refl c.requires (search rules) (search rules)

pub returns-in-RESUB : goal.returns-in-RESUB
unfolding topic_words
returns-in-RESUB c = reads (codes "RESUB") (on Resubscribe) c.args.word.now c.args.t refl c.requires (search rules) (search rules)

pub returns-in-QUEUED : goal.returns-in-QUEUED
unfolding topic_words
returns-in-QUEUED c = reads (codes "QUEUED") (on (Ask Queued)) c.args.word.now c.args.t refl c.requires (search rules) (search rules)

pub returns-in-READERS : goal.returns-in-READERS
unfolding topic_words
returns-in-READERS c = reads (codes "READERS") (on (Ask Readers)) c.args.word.now c.args.t refl c.requires (search rules) (search rules)

pub returns-in-END : goal.returns-in-END
unfolding topic_words
returns-in-END c = reads (codes "END") (on End) c.args.word.now c.args.t refl c.requires (search rules) (search rules)

pub returns-in-TRACE : goal.returns-in-TRACE
unfolding topic_words
returns-in-TRACE c = reads (codes "TRACE") tracing c.args.word.now c.args.t refl c.requires (search rules) (search rules)

pub returns-in_default : goal.returns-in_default
unfolding topic_words
returns-in_default c = by_word-none topic_words c.args.word.now (Some c.args.t) (
    search rules
    & search rules
    & search rules
    & search rules
    & search rules
    & search rules
    & search rules
    & search rules
    & search rules
    & tt
    )
