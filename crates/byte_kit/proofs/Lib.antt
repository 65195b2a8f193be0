mod Decimals
mod NumberLaws
