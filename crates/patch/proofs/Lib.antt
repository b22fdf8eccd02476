mod BuildLaws
mod EditLaws
mod GatherLaws
mod RangeSums
mod SumLaws
