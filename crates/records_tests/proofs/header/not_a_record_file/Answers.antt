use borrow.Author.Tests.{lt-ltb, le-ltb}
use Rattle.records.specs.Header.{not_a_record_file}
use Rattle.records_tests.proofs.Letters.{letters}
use Rattle.records_tests.proofs.header.not_a_record_file.Goals as goal

pub returns-then-file-lt-HEADER_LENGTH : goal.returns-then-file-lt-HEADER_LENGTH
unfolding not_a_record_file
returns-then-file-lt-HEADER_LENGTH c = record { result = rw (lt-ltb _ _ c.if-file-lt-HEADER_LENGTH.true) }

pub returns-else-file-lt-HEADER_LENGTH : goal.returns-else-file-lt-HEADER_LENGTH
unfolding not_a_record_file
returns-else-file-lt-HEADER_LENGTH c = record { result = rw (le-ltb _ _ c.if-file-lt-HEADER_LENGTH.false, c.starts_with.ensures.value, letters c.args.file.now c.if-file-lt-HEADER_LENGTH.false) }
