-- `book::post_all` meets its contract: what is still to come makes what all of it makes. Assumes nothing.
use Rattle.std.proofs.Common.{◌≡◌}
use Rattle.std.specs.Slice.Iter.{chunks_rest, chunks_size}
use Rattle.record_table.specs.Table.{record_bytes}
use Rattle.book.proofs.Runs.{Going}
use Rattle.book.proofs.post_all.Given as goal

abbrev pub invariant-loop-record : goal.invariant-loop-record
invariant-loop-record l =
    record {
      sixteen : chunks_size l.record-iterator ≡ record_bytes;
      going : Going l.initial.book l.run l.book (chunks_rest l.record-iterator);
    }
