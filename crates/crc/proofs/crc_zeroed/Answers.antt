-- `crc::crc_zeroed` meets its contract: what is pending after the octets before, the word of which four are taken as zero, and the whole words behind it,
-- is added to the last octets.
use Prim.Native.Nat.{ℕ, ◌+◌, ◌-◌, ◌*◌, ◌/◌, ◌≤◌}
use mathlib.Core.Path.{◌≡◌}
use mathlib.Core.List.{List, ◌++◌}
use native.Mathlib.Omega.{arith}
use lib.ListN.{length, take, drop, replicate, length-drop}
use lib.Seq.{take_all}
use Rattle.crc.proofs.Words.{spreads_word, spreads_append, spreads_end, word_zeroed, zeroed_word}
use Rattle.crc.proofs.crc_zeroed.Goals as goal

pub returns : goal.returns
returns c =
    let bytes : List ℕ = c.args.bytes.now in
    let at : ℕ = c.args.at in
    let n : ℕ = (length bytes - 40) / 8 * 8 in
    let before = c.spread-before in
    let four = c.four_at in
    let over = c.turned-over in
    let on = c.spread_on-p in
    let word : List ℕ = replicate 4 0 ++ take 4 (drop (at + 4) bytes) in
    let middle : List ℕ = take (n - (at + 8)) (drop (at + 8) bytes) in
    let behind : take (length bytes - n) (drop n bytes) ≡ drop n bytes = take_all (length bytes - n) (drop n bytes) (simp length-drop (omega arith)) in
    let last : 40 ≤ length (drop n bytes) = simp length-drop (omega (arith, c.requires.rule, c.requires.at_value, c.requires.at_in_bounds)) in
    rw (zeroed_word bytes at n (omega (arith, c.requires.rule, c.requires.at_value, c.requires.at_in_bounds)) (omega (arith, c.requires.rule, c.requires.at_value, c.requires.at_in_bounds)))
    (spreads_end 4294967295 on.result c.ended.result ((take at bytes ++ word) ++ middle) (drop n bytes) last
    (spreads_append 4294967295 over.result on.result (take at bytes ++ word) middle
    (spreads_append 4294967295 before.result over.result (take at bytes) word before.ensures
    (spreads_word before.result over.result (four.result * 4294967296) word (word_zeroed four.result (take 4 (drop (at + 4) bytes)) four.ensures) over.ensures))
    on.ensures)
    (rw behind at c.ended.ensures))
