use Rattle.std.proofs.Common.{◌≡◌, ℕ, ◌∷◌, ◌++◌, true, List, length, refl, Option, Some, Ok, inl, inr, rules}
use Rattle.std.specs.Prelude.{codes, Result}
use Rattle.std.proofs.lemmas.Slice.Eq.{HasBytesAt}
use Rattle.th_model.specs.Names.{is_name}
use Rattle.th_lines.specs.declared.command.Command.{Command}
use Rattle.th_lines.specs.declared.command.Command.TheVariants.{On}
use Rattle.th_lines.specs.declared.command.Action.TheVariants.{Bind, Unbind, Subscribe, Unsubscribe, Resubscribe, Ask, ByReceiver, End}
use Rattle.th_lines.specs.declared.fault.LineFault.{LineFault}
use Rattle.th_model.specs.declared.verb.Question.TheVariants.{Queued, Readers}
use Rattle.th_model.specs.declared.verb.ReceiverVerb.TheVariants.{TryRecv, Recv, Left, Borrow, Take, HasChanged, TryChanged, Changed, MarkChanged, MarkUnchanged}
use Rattle.th_model.specs.declared.verb.SenderVerb.TheVariants.{Send, Replace}
use Rattle.th_model.specs.declared.verb.Start.TheVariants.{Tail}
use Rattle.th_lines.specs.Fields.{Rest, by_word, field_then, name_then, or_field, value_last}
use Rattle.th_lines.specs.Commands.{carries_value, beginning, editing, making, on, sending, tracing, mark_words, topic_words, value_words, words, words_alone, words_with_more}
use Rattle.th_lines.specs.Reads.{Reads}
use Rattle.th_lines.proofs.Readers.{by_word-misses, named-more, reads-after, value-read, value-refused}
use Rattle.th_lines.proofs.Tables.{◌&◌}
use Rattle.th_lines.proofs.read.with_more.Goals as goal

-- the word's own reader reads what follows the name
reads : (spelled word t bytes : List ℕ) (next : List ℕ → Rest → Option Command) (result : Result Command LineFault)
    → by_word words spelled (Some (t ++ 32 ∷ bytes)) ≡ name_then next (Some (t ++ 32 ∷ bytes)) → is_name t ≡ true
    → length word ≡ length spelled → HasBytesAt word 0 spelled → Reads carries_value result (next t (Some bytes))
    → Reads carries_value result (by_word words word (Some (t ++ 32 ∷ bytes)))
reads spelled word t bytes next result own name long here h =
    reads-after carries_value words spelled word t (Some bytes) next result own name long here h

pub returns-in_ok-value-in-PUB : goal.returns-in_ok-value-in-PUB
unfolding words words_alone words_with_more value_words mark_words topic_words
returns-in_ok-value-in-PUB c =
    let t : List ℕ = c.args.t in
    let value : List ℕ = c.in_ok-value-in-PUB.field-0 in
    reads (codes "PUB") c.args.word.now t c.args.text.now (λ (t : List ℕ). value_last (sending Send t))
    (Ok (sending Send t value)) refl c.requires (search rules) (search rules)
    (value-read (sending Send t) (Some c.args.text.now) value c.in_ok-value-in-PUB.ensures)

pub returns-in_err-value-in-PUB : goal.returns-in_err-value-in-PUB
unfolding words words_alone words_with_more value_words mark_words topic_words
returns-in_err-value-in-PUB c =
    let t : List ℕ = c.args.t in
    reads (codes "PUB") c.args.word.now t c.args.text.now
    (λ (t : List ℕ). value_last (sending Send t)) c.from_residual.result refl c.requires (search rules) (search rules)
    (value-refused carries_value (sending Send t) (λ value. refl)
    (Some c.args.text.now) c.in_err-value-in-PUB.field-0.0 c.from_residual.result (search rules) c.in_err-value-in-PUB.ensures)

pub returns-in_ok-value-in-SWAP : goal.returns-in_ok-value-in-SWAP
unfolding words words_alone words_with_more value_words mark_words topic_words
returns-in_ok-value-in-SWAP c =
    let t : List ℕ = c.args.t in
    let value : List ℕ = c.in_ok-value-in-SWAP.field-0 in
    reads (codes "SWAP") c.args.word.now t c.args.text.now (λ (t : List ℕ). value_last (sending Replace t))
    (Ok (sending Replace t value)) refl c.requires (search rules) (search rules)
    (value-read (sending Replace t) (Some c.args.text.now) value c.in_ok-value-in-SWAP.ensures)

pub returns-in_err-value-in-SWAP : goal.returns-in_err-value-in-SWAP
unfolding words words_alone words_with_more value_words mark_words topic_words
returns-in_err-value-in-SWAP c =
    let t : List ℕ = c.args.t in
    reads (codes "SWAP") c.args.word.now t c.args.text.now
    (λ (t : List ℕ). value_last (sending Replace t)) c.from_residual-in_err-value-in-SWAP.result refl c.requires (search rules)
    (search rules) (value-refused carries_value (sending Replace t) (λ value. refl)
    (Some c.args.text.now) c.in_err-value-in-SWAP.field-0.0 c.from_residual-in_err-value-in-SWAP.result
    (search rules) c.in_err-value-in-SWAP.ensures)

pub returns-in-EDIT : goal.returns-in-EDIT
unfolding words words_alone words_with_more value_words mark_words topic_words
returns-in-EDIT c = reads (codes "EDIT") c.args.word.now c.args.t c.args.text.now
    (λ (t : List ℕ). field_then (by_word (editing t))) c.edit.result refl c.requires (search rules)
    (search rules) c.edit.ensures

pub returns-in-OPEN : goal.returns-in-OPEN
unfolding words words_alone words_with_more value_words mark_words topic_words
returns-in-OPEN c = reads (codes "OPEN") c.args.word.now c.args.t c.args.text.now
    (λ (t : List ℕ). field_then (by_word (making t))) c.open.result refl c.requires (search rules) (search rules) c.open.ensures

pub returns-in-SUB : goal.returns-in-SUB
unfolding words words_alone words_with_more value_words mark_words topic_words
returns-in-SUB c = reads (codes "SUB") c.args.word.now c.args.t c.args.text.now
    (λ (t : List ℕ). or_field (On t (Subscribe Tail)) (by_word (beginning t))) c.subscribe.result refl c.requires (search rules)
    (search rules) c.subscribe.ensures

pub returns-in_default : goal.returns-in_default
unfolding words words_alone words_with_more value_words mark_words topic_words
returns-in_default c =
    let t : List ℕ = c.args.t in
    let bytes : List ℕ = c.args.text.now in
    by_word-misses words c.args.word.now (Some (t ++ 32 ∷ bytes)) (
    inr refl
    & inr refl
    & inl (search rules)
    & inl (search rules)
    & inl (search rules)
    & inl (search rules)
    & inr (named-more (on (ByReceiver TryRecv)) t bytes c.requires)
    & inr (named-more (on (ByReceiver Recv)) t bytes c.requires)
    & inr (named-more (on (ByReceiver Left)) t bytes c.requires)
    & inr (named-more (on (ByReceiver Borrow)) t bytes c.requires)
    & inr (named-more (on (ByReceiver Take)) t bytes c.requires)
    & inr (named-more (on (ByReceiver HasChanged)) t bytes c.requires)
    & inr (named-more (on (ByReceiver TryChanged)) t bytes c.requires)
    & inr (named-more (on (ByReceiver Changed)) t bytes c.requires)
    & inr (named-more (on (ByReceiver MarkChanged)) t bytes c.requires)
    & inr (named-more (on (ByReceiver MarkUnchanged)) t bytes c.requires)
    & inr (named-more (on Bind) t bytes c.requires)
    & inr (named-more (on Unbind) t bytes c.requires)
    & inl (search rules)
    & inr (named-more (on Unsubscribe) t bytes c.requires)
    & inr (named-more (on Resubscribe) t bytes c.requires)
    & inr (named-more (on (Ask Queued)) t bytes c.requires)
    & inr (named-more (on (Ask Readers)) t bytes c.requires)
    & inr (named-more (on End) t bytes c.requires)
    & inr (named-more tracing t bytes c.requires)
    & tt
    )
