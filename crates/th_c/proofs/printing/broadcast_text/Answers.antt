use Rattle.std.proofs.Common.{◌≡◌, ℕ, List, ◌++◌, ap, length, map, ◌∙◌}
use Rattle.th_model.specs.declared.broadcast.BCall.{BCall}
use Rattle.th_model.specs.declared.broadcast.BReply.{BReply}
use Rattle.th_traces.specs.Broadcast as broadcast
use Rattle.th_traces.specs.BroadcastWords.{grammar}
use Rattle.th_model.specs.BroadcastPicture as broadcast_picture_of
use Rattle.th_traces.specs.Grammars.{fields}
use Rattle.th_traces.specs.Spelled.{Bytes, entry_lines, picture_lines, text}
use Rattle.th_traces.specs.Traces.{broadcast_told}
use Rattle.th_traces.specs.Versions.{version_of}
use Rattle.th_c.specs.SpelledValues.{broadcast_entry, broadcast_picture}
use Rattle.th_c.proofs.Printed.{told-length, whole}
use Rattle.th_c.proofs.printing.broadcast_text.Goals as goal

pub returns : goal.returns
returns g c =
    let entry : BCall g.row.T.Denot × BReply g.row.T.Denot → BCall Bytes × BReply Bytes = broadcast_entry g.T.Payload.spelled in
    let picture_of : broadcast_picture_of.Picture g.row.T.Denot → broadcast_picture_of.Picture Bytes = broadcast_picture g.T.Payload.spelled in
    let start = c.args.segment.now.start in
    let entries : List (BCall g.row.T.Denot × BReply g.row.T.Denot) = c.args.segment.now.entries in
    let same : c.entries-entries.result.now ≡ entries = c.entries-entries.ensures in
    let told : List (BCall Bytes × BReply Bytes) = map entry entries in
    let es : List (List Bytes × List Bytes) = fields grammar told in
    let call : BCall Bytes × BReply Bytes → BCall Bytes = λ e. e.0 in
    let version : c.version_of.result ≡ version_of (map call told) =
    c.version_of.ensures ∙ ap (λ xs. version_of (map call (map entry xs))) same in
    let picture : c.in_ok-picture.picture ≡ picture_of start = c.in_ok-picture.ensures ∙ ap picture_of c.start.ensures in
    let lines : List Bytes = picture_lines (broadcast_told (picture_of start) told) in
    let shown : c.new.result ≡ lines = c.new.ensures ∙ (λ j. picture_lines (broadcast.told (version j) (picture j))) in
    let empty = c.new-out.ensures.items in
    let a : List ℕ = c.print_broadcast_lines.new.out.items in
    let first : a ≡ text lines = c.in_ok-print_broadcast_lines.ensures ∙ (λ j. empty j ++ text (shown j)) in
    let b : List ℕ = c.print_broadcast_entries.new.out.items in
    let second : b ≡ a ++ text (entry_lines es) =
    c.in_ok-print_broadcast_entries.ensures ∙ ap (λ xs. a ++ text (entry_lines (fields grammar (map entry xs)))) same in
    let count = ap (λ xs. length xs) same ∙ told-length grammar entry entries in
    whole lines es (length c.entries-entries.result.now) count a b c.print_end.new.out.items first second c.in-Ok.ensures.ok
