-- All the worked examples. Each part that has some adds them here.
use Rattle.examples.specs.Headers.{HeaderExamples}
use Rattle.examples.specs.Lines.{LineExamples}
use Rattle.examples.specs.HeaderListings.{HeaderListingExamples}
use Rattle.examples.specs.SpoolListings.{SpoolListingExamples}

pub record Examples : Type 0 where
  pub headers : HeaderExamples
  pub header_listings : HeaderListingExamples
  pub lines : LineExamples
  pub spool_listings : SpoolListingExamples
