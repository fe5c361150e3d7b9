-- `deliver::entry_came` meets its contract: by whether the entry begins a load (`entry_begins`); any other answer is that of a part.
use Rattle.std.proofs.Common.{sym, ◌∙◌, ltb-false}
use Rattle.words.specs.Words.{engine_of}
use Rattle.words.proofs.BeginLaws.{beginning, entry_begins}
use Rattle.words.proofs.deliver.entry_came.Goals as goal

pub put_begun-requires : goal.put_begun-requires
put_begun-requires c = (c.requires.ws_value, ltb-false 49152 _ (beginning (engine_of c.args.ws.now) c.args.failure c.args.bytes.now _ _ _ _ (sym c.entry_begins.ensures ∙ c.in-Some.is)).small)

pub returns-in-Some : goal.returns-in-Some
returns-in-Some c = let e = engine_of c.args.ws.now in let begun = beginning e c.args.failure c.args.bytes.now _ _ _ _ (sym c.entry_begins.ensures ∙ c.in-Some.is) in let came = entry_begins e c.args.arena.now c.args.bytes.now c.args.failure c.args.key c.requires.arena_value _ _ _ _ begun in
    record {
      value = rw came;
      ws_after = rw came c.put_begun.ensures;
      arena_after = rw came;
    }
