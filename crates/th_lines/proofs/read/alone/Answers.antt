use Rattle.std.proofs.Common.{None, Ok, refl, inl, inr, rules}
use Rattle.std.specs.Prelude.{codes}
use Rattle.th_lines.specs.declared.command.Command.TheVariants.{Quit}
use Rattle.th_lines.specs.declared.command.Command.TheVariants as command
use Rattle.th_lines.specs.Commands.{carries_value, mark_words, topic_words, value_words, words, words_alone, words_with_more}
use Rattle.th_lines.proofs.Readers.{by_word-misses, reads-word}
use Rattle.th_lines.proofs.Tables.{◌&◌}
use Rattle.th_lines.proofs.read.alone.Goals as goal

pub returns-in-LIST : goal.returns-in-LIST
unfolding words words_alone words_with_more value_words mark_words topic_words
returns-in-LIST c = reads-word carries_value words (codes "LIST") c.args.word.now None (Ok command.List) (search rules) (search rules) refl

pub returns-in-QUIT : goal.returns-in-QUIT
unfolding words words_alone words_with_more value_words mark_words topic_words
returns-in-QUIT c = reads-word carries_value words (codes "QUIT") c.args.word.now None (Ok Quit) (search rules) (search rules) refl

pub returns-in_default : goal.returns-in_default
unfolding words words_alone words_with_more value_words mark_words topic_words
returns-in_default c = by_word-misses words c.args.word.now None (
    inl (search rules)
    & inl (search rules)
    & inr refl
    & inr refl
    & inr refl
    & inr refl
    & inr refl
    & inr refl
    & inr refl
    & inr refl
    & inr refl
    & inr refl
    & inr refl
    & inr refl
    & inr refl
    & inr refl
    & inr refl
    & inr refl
    & inr refl
    & inr refl
    & inr refl
    & inr refl
    & inr refl
    & inr refl
    & inr refl
    & tt
    )
