use Rattle.std.proofs.Common.{◌≡◌, ◌++◌, take}
use Rattle.replay_tests.specs.Setting.{words as words_of}
use Rattle.replay_tests.proofs.setting.words.Given as goal

abbrev pub invariant-loop-word : goal.invariant-loop-word
invariant-loop-word l = l.bytes.items ≡ l.initial.bytes.items ++ words_of (take l.word-index l.words)
