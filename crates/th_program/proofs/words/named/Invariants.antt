use Rattle.std.proofs.Common.{◌≡◌, map, string_bytes, take}
use Rattle.th_program.proofs.words.named.Given as goal

-- the names up to here
abbrev pub invariant-loop-file : goal.invariant-loop-file
invariant-loop-file l = map string_bytes l.names.items ≡ map (λ f. f.now) (take l.file-index l.files)
