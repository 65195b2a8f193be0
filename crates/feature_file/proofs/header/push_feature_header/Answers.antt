use Rattle.feature_file.proofs.Appended.{three_appended}
use Rattle.feature_file.proofs.header.push_feature_header.Goals as goal

pub returns-clause-appended : goal.returns-clause-appended
returns-clause-appended c =
    three_appended _ _ _ _ _ _ _ c.in_ok-extend_from_slice.ensures.items
    (rw c.as_bytes.ensures.value at c.in_ok-extend_from_slice-2.ensures.items) c.in_ok-extend_from_slice-3.ensures.items
