use Rattle.std.proofs.Common.{◌≡◌, ℕ, true, List, ◌++◌, length, refl, sym, subst, Option, Some, None, Ok, inl, rules}
use Rattle.std.specs.Prelude.{codes}
use Rattle.std.proofs.lemmas.Slice.Eq.{HasBytesAt}
use Rattle.th_model.specs.Names.{is_name}
use Rattle.th_lines.specs.declared.command.Command.{Command}
use Rattle.th_lines.specs.declared.command.Action.TheVariants.{ByReceiver}
use Rattle.th_model.specs.declared.verb.ReceiverVerb.TheVariants.{HasChanged, TryChanged, Changed, MarkChanged, MarkUnchanged}
use Rattle.th_lines.specs.Fields.{by_word, ended, named}
use Rattle.th_lines.specs.Commands.{carries_value, on, mark_words, topic_words}
use Rattle.th_lines.specs.Reads.{Reads}
use Rattle.th_lines.proofs.Readers.{by_word-behind, reads-after}
use Rattle.th_lines.proofs.Tables.{◌&◌}
use Rattle.th_lines.proofs.read.on_mark.Goals as goal

-- the word's own reader reads the name
reads : (spelled : List ℕ) (read : List ℕ → Command) (word t : List ℕ)
    → by_word (mark_words ++ topic_words) spelled (Some t) ≡ named read (Some t)
    → is_name t ≡ true → length word ≡ length spelled → HasBytesAt word 0 spelled
    → by_word (mark_words ++ topic_words) word (Some t) ≡ Some (read t)
reads spelled read word t own name long bytes =
    reads-after carries_value (mark_words ++ topic_words) spelled word t None (λ name. ended (read name))
    (Ok (read t)) own name long bytes refl

pub returns-in-HAS : goal.returns-in-HAS
unfolding mark_words
returns-in-HAS c = reads (codes "HAS") (on (ByReceiver HasChanged)) c.args.word.now c.args.t refl c.requires (search rules) (search rules)

pub returns-in-TRYCHANGED : goal.returns-in-TRYCHANGED
unfolding mark_words
returns-in-TRYCHANGED c =
    reads (codes "TRYCHANGED") (on (ByReceiver TryChanged)) c.args.word.now c.args.t refl c.requires (search rules) (search rules)

pub returns-in-CHANGED : goal.returns-in-CHANGED
unfolding mark_words
returns-in-CHANGED c =
    reads (codes "CHANGED") (on (ByReceiver Changed)) c.args.word.now c.args.t refl c.requires (search rules) (search rules)

pub returns-in-MARK : goal.returns-in-MARK
unfolding mark_words
returns-in-MARK c =
    reads (codes "MARK") (on (ByReceiver MarkChanged)) c.args.word.now c.args.t refl c.requires (search rules) (search rules)

pub returns-in-UNMARK : goal.returns-in-UNMARK
unfolding mark_words
returns-in-UNMARK c =
    reads (codes "UNMARK") (on (ByReceiver MarkUnchanged)) c.args.word.now c.args.t refl c.requires (search rules) (search rules)

pub returns-in_default : goal.returns-in_default
unfolding mark_words
returns-in_default c =
    let word : List ℕ = c.args.word.now in
    let t : List ℕ = c.args.t in
    let past =
    by_word-behind mark_words topic_words word (Some t)
    (inl (search rules) & inl (search rules) & inl (search rules) & inl (search rules) & inl (search rules) & tt) in
    subst (λ (o : Option Command). Reads carries_value c.on_handles.result o) (sym past) c.on_handles.ensures
