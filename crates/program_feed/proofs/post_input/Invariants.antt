-- Each turn posts what came and holds the rest (Reading); what can still come falls with each turn, since a record taken fills a slot (Slots). Assumes nothing.
use Rattle.program_feed.proofs.Reading.{Reading, left}
use Rattle.program_feed.proofs.post_input.Given as goal

abbrev pub invariant-loop-count : goal.invariant-loop-count
invariant-loop-count g l = Reading l.fn.book l.book l.block l.held

abbrev pub decreases-loop-count : goal.decreases-loop-count
decreases-loop-count g l = left l.book l.held
