pub mod VectorLemmas
mod Fitting
