-- `filter::ask` meets its contract.
use Rattle.filter.proofs.AskLaws.{ask_short}
use Rattle.filter.proofs.ask.Goals as goal

pub returns-then-bytes-lt-HEADER : goal.returns-then-bytes-lt-HEADER
returns-then-bytes-lt-HEADER c = ask_short c.args.bytes.now c.args.hash c.if-bytes-lt-HEADER.true
